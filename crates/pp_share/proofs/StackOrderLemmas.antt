-- The order of samples by their new ids is total, and equal there is what is equal then.
use Rattle.std.proofs.Common.{◌≡◌, ◌≢◌, ℕ, zero, suc, ◌+◌, ◌<◌, ◌≤◌, ◌==◌, Bool, ◌&&◌, ◌⊎◌, ⊎_elim, List, [], ◌∷◌, length, map, get_or, refl, sym, ap, subst, ◌∙◌, arith}
use Rattle.std.proofs.lemmas.Bool.{cases_lt}
use Rattle.std.specs.Cmp.{IsTotalOrder, nat_cmp_total, int_cmp_total, on_total, then_total, both_tied, unsigned_ties, nat_cmp_is}
use Rattle.std.specs.Cmp.Lexicographic.{pointwise, slice_cmp, lists_total, lists_ties}
use Rattle.std.specs.Ordering.{is_eq, nat_cmp, int_cmp, ordering_then, MatchOrdering}
use Rattle.std.specs.declared.cmp.Ordering.{Ordering}
use Rattle.std.specs.declared.cmp.Ordering.TheVariants.{Less, Equal, Greater}
use Rattle.pp_model.specs.declared.profile.Label.{Label}
use Rattle.pp_model.specs.declared.profile.Sample.{Sample}
use Rattle.pp_share.specs.declared.repeats.KindBy.{KindBy}
use Rattle.pp_share.specs.declared.repeats.KindBy.TheVariants.{Hash, Stack}
use Rattle.pp_share.specs.declared.repeats.Placed.{Placed}
use Rattle.pp_share.specs.Renumbered.{NewIds, new_ids, renumbered_label, renumbered_sample}
use Rattle.pp_share.specs.SampleKeys.{sample_stack}
use Rattle.pp_share.specs.SampleStacks.{equal_label, same_stack}
use Rattle.pp_share.specs.StackOrder.{hash_cmp, id_cmp, text_cmp, label_cmp, stack_cmp, hash_stack_cmp, kind_cmp}

-- one index more of which a fact holds
pub one_further : (P : ℕ → Type 0) (end : ℕ) → ((k : ℕ) → k < end → P k) → P end → (k : ℕ) → k < end + 1 → P k
one_further P end before here k below =
    ⊎_elim (λ lower. before k lower) (λ last. let at : end ≡ k = omega (arith, below, last) in subst P at here) (cases_lt k end)

-- lists that are level as far as the shorter goes are told apart by their lengths
module _ {X : Type 0} (R : X → X → Ordering) where
  abbrev pub IsLevel : List X → List X → ℕ → Type 0
  IsLevel xs ys end = (k : ℕ) (d : X) → k < end → R (get_or xs k d) (get_or ys k d) ≡ Equal

  lengths : (xs ys : List X) → ((k : ℕ) (d : X) → k < length xs → k < length ys → R (get_or xs k d) (get_or ys k d) ≡ Equal)
      → MatchOrdering (slice_cmp R xs ys) (length xs < length ys) (length xs ≡ length ys) (length ys < length xs)
  lengths [] [] level = refl
  lengths [] (y ∷ ys) level = omega arith
  lengths (x ∷ xs) [] level = omega arith
  lengths (x ∷ xs) (y ∷ ys) level =
      by (R x y) (level 0 x (omega arith) (omega arith)) (longer (slice_cmp R xs ys) (lengths xs ys (λ k d within within_too. level (suc k) d (omega (arith, within)) (omega (arith, within_too)))))
    where
      longer : (r : Ordering) → MatchOrdering r (length xs < length ys) (length xs ≡ length ys) (length ys < length xs)
          → MatchOrdering r (length (x ∷ xs) < length (y ∷ ys)) (length (x ∷ xs) ≡ length (y ∷ ys)) (length (y ∷ ys) < length (x ∷ xs))
      longer Less is = omega (arith, is)
      longer Equal is = omega (arith, is)
      longer Greater is = omega (arith, is)

      by : (r : Ordering) → r ≡ Equal → MatchOrdering (slice_cmp R xs ys) (length (x ∷ xs) < length (y ∷ ys)) (length (x ∷ xs) ≡ length (y ∷ ys)) (length (y ∷ ys) < length (x ∷ xs))
          → MatchOrdering (ordering_then r (slice_cmp R xs ys)) (length (x ∷ xs) < length (y ∷ ys)) (length (x ∷ xs) ≡ length (y ∷ ys)) (length (y ∷ ys) < length (x ∷ xs))
      by r is rest =
          subst (λ q. MatchOrdering (ordering_then q (slice_cmp R xs ys)) (length (x ∷ xs) < length (y ∷ ys)) (length (x ∷ xs) ≡ length (y ∷ ys)) (length (y ∷ ys) < length (x ∷ xs))) (sym is) rest

  pub by_lengths : (xs ys : List X) (end : ℕ) → IsLevel xs ys end → (length xs ≤ end) ⊎ (length ys ≤ end) → nat_cmp (length xs) (length ys) ≡ slice_cmp R xs ys
  by_lengths xs ys end level short =
      sym (nat_cmp_is (length xs) (length ys) (slice_cmp R xs ys)
      (lengths xs ys (λ k d within within_too. level k d (⊎_elim (λ a. omega (arith, a, within)) (λ b. omega (arith, b, within_too)) short))))

  -- and else by the first that isn't
  pub by_first : (xs ys : List X) (k : ℕ) (d : X) (r : Ordering) → IsLevel xs ys k → k < length xs → k < length ys → R (get_or xs k d) (get_or ys k d) ≡ r → r ≢ Equal → r ≡ slice_cmp R xs ys
  by_first [] ys k d r level within within_too is other = absurd (omega (arith, within))
  by_first (x ∷ xs) [] k d r level within within_too is other = absurd (omega (arith, within_too))
  by_first (x ∷ xs) (y ∷ ys) zero d r level within within_too is other = by r other ∙ ap (λ q. ordering_then q (slice_cmp R xs ys)) (sym is)
    where
      by : (r : Ordering) → r ≢ Equal → r ≡ ordering_then r (slice_cmp R xs ys)
      by Less other = refl
      by Equal other = absurd (other refl)
      by Greater other = refl
  by_first (x ∷ xs) (y ∷ ys) (suc k) d r level within within_too is other =
      by_first xs ys k d r (λ i e below. level (suc i) e (omega (arith, below))) (omega (arith, within)) (omega (arith, within_too)) is other
      ∙ ap (λ q. ordering_then q (slice_cmp R xs ys)) (sym (level 0 d (omega arith)))

pointwise-map : {A B : Type 0} (E : B → B → Bool) (f : A → B) (xs ys : List A) → pointwise E (map f xs) (map f ys) ≡ pointwise (λ x y. E (f x) (f y)) xs ys
pointwise-map E f [] [] = refl
pointwise-map E f [] (y ∷ ys) = refl
pointwise-map E f (x ∷ xs) [] = refl
pointwise-map E f (x ∷ xs) (y ∷ ys) = ap (λ b. E (f x) (f y) && b) (pointwise-map E f xs ys)

-- all orders of kinds are total
pub hash_total : IsTotalOrder hash_cmp
hash_total = on_total (λ (p : Placed). p.hash) nat_cmp_total

module _ (by : NewIds) where
  text_total : IsTotalOrder (text_cmp by)
  text_total = on_total by.text int_cmp_total

  label_total : IsTotalOrder (label_cmp by)
  label_total =
      then_total (on_total (λ (l : Label). l.key) text_total)
      (then_total (on_total (λ (l : Label). l.text) text_total)
      (then_total (on_total (λ (l : Label). l.num) int_cmp_total) (on_total (λ (l : Label). l.num_unit) text_total)))

  pub hash_stack_total : IsTotalOrder (hash_stack_cmp by)
  hash_stack_total =
      then_total hash_total
      (on_total (λ (p : Placed). p.sample.now)
      (then_total (on_total (λ (s : Sample). s.location_id) (lists_total (on_total by.location nat_cmp_total)))
      (on_total (λ (s : Sample). s.label) (lists_total label_total))))

  label_ties : (a b : Label) → equal_label (renumbered_label by a) (renumbered_label by b) ≡ is_eq (label_cmp by a b)
  label_ties a b =
      let keys = text_cmp by a.key b.key in
      let texts = text_cmp by a.text b.text in
      let nums = int_cmp a.num b.num in
      let units = text_cmp by a.num_unit b.num_unit in
      both_tied (is_eq keys) _ keys (ordering_then texts (ordering_then nums units)) refl
      (both_tied (is_eq texts) _ texts (ordering_then nums units) refl (both_tied (is_eq nums) (is_eq units) nums units refl refl))

  -- samples are level where their locations and labels are equal once they have their new ids
  pub stack_ties : (a b : Sample) → same_stack (sample_stack (renumbered_sample by a)) (sample_stack (renumbered_sample by b)) ≡ is_eq (stack_cmp by a b)
  stack_ties a b =
      both_tied _ _ (slice_cmp (id_cmp by) a.location_id b.location_id) (slice_cmp (label_cmp by) a.label b.label)
      (pointwise-map (λ i j. i == j) by.location a.location_id b.location_id
      ∙ lists_ties (id_cmp by) (λ i j. unsigned_ties (by.location i) (by.location j)) a.location_id b.location_id)
      (pointwise-map equal_label (renumbered_label by) a.label b.label ∙ lists_ties (label_cmp by) label_ties a.label b.label)

pub kind_total : (kind : KindBy) → IsTotalOrder (kind_cmp kind)
kind_total Hash = hash_total
kind_total (Stack by) = hash_stack_total (new_ids by.now)
