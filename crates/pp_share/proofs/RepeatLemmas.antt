-- Samples that were put in order, so that those of one kind stand side by side.
use Rattle.std.proofs.Common.{◌≡◌, ℕ, ◌+◌, ◌-◌, ◌<◌, ◌≤◌, ◌==◌, Bool, true, false, true≢false, ◌||◌, ◌⊎◌, inl, inr, ⊎_elim, List, [], ◌∷◌, ◌++◌, length, map, get_or, refl, sym, ap, subst, ◌∙◌, if◌then◌else◌, arith}
use Rattle.std.specs.Prelude.{nat_lt, All, Contains}
use Rattle.std.specs.List.{list_any, AllByRecursion}
use Rattle.std.specs.List.Sorted.{IsSorted, IsPermutation}
use Rattle.std.specs.Cmp.{IsTotalOrder, nat_cmp_total, on_total, then_total, alike_right, tied_itself, Equal-is, ranks}
use Rattle.std.specs.Ordering.{is_eq, is_lt, nat_cmp, ordering_then, ordering_reverse, MatchOrdering}
use Rattle.std.specs.declared.cmp.Ordering.{Ordering}
use Rattle.std.specs.declared.cmp.Ordering.TheVariants.{Less, Equal, Greater}
use Rattle.std.proofs.lemmas.Bool.{cases_lt, eqb-true, eq-eqb, ltb-true, ltb-false}
use Rattle.std.proofs.lemmas.List.{get_or_default, get_or-map}
use Rattle.std.proofs.lemmas.List.Elements.{All-append, All-push, All-contains, All-weaker}
use Rattle.std.proofs.lemmas.List.Folds.{list_any-append}
use Rattle.std.proofs.lemmas.List.Sorted.{ranks_by, sorted_far, All-permutation, list_any-IsPermutation}
use Rattle.pp_base.proofs.Orders.{both_equal}
use Rattle.pp_model.specs.declared.profile.Sample.{Sample}
use Rattle.pp_model.specs.Values.{no_sample}
use Rattle.pp_share.specs.declared.repeats.Placed.{Placed}
use Rattle.pp_share.specs.declared.repeats.Repeat.{Repeat}
use Rattle.pp_share.specs.Hashes.{hash_by}
use Rattle.pp_share.specs.Renumbered.{NewIds, renumbered_sample}
use Rattle.pp_share.specs.Repeats.{class_of, is_later, stack_at, AreEqual, IsFirst, IsPair, IsRepeat, FindsOfClass, FindsBelow, IsLeast, BeginsKind, IsRepeated, FindsRepeats, IsOfClass, AreOfClass}
use Rattle.pp_share.specs.SampleKeys.{sample_stack}
use Rattle.pp_share.specs.SampleStacks.{same_stack, stack_hash, stack_decides}
use Rattle.pp_share.specs.StackOrder.{hash_cmp, stack_cmp, hash_stack_cmp, placed_cmp}
use Rattle.pp_share.proofs.Prefix.{by_recursion}
use Rattle.pp_share.proofs.StackOrderLemmas.{stack_ties, one_further}

-- A list that is sorted by kind, and in each kind by number: what begins a kind has its least number.
module _ {X : Type 0} (R : X → X → Ordering) (o : IsTotalOrder R) (n : X → ℕ) (xs : List X)
    (sorted : IsSorted (λ x y. ordering_then (R x y) (nat_cmp (n x) (n y))) xs) where
  abbrev lower : X → X → Bool
  lower x y = is_lt (ordering_then (R x y) (nat_cmp (n x) (n y)))

  ordered : (i j : ℕ) (d : X) → i ≤ j → j < length xs → lower (get_or xs j d) (get_or xs i d) ≡ false
  ordered = sorted_far lower (ranks_by (then_total o (on_total n nat_cmp_total)) (λ x. x)) xs sorted

  -- an item that stands behind one of its kind has no lower number
  behind : (x y : X) → lower y x ≡ false → R y x ≡ Equal → n x ≤ n y
  behind x y not_lower is =
      by (nat_cmp (n y) (n x)) (ranks (n y) (n x)) (ap (λ r. is_lt (ordering_then r (nat_cmp (n y) (n x)))) (sym is) ∙ not_lower)
    where
      by : (r : Ordering) → MatchOrdering r (n y < n x) (n y ≡ n x) (n x < n y) → is_lt r ≡ false → n x ≤ n y
      by Less is not_less = absurd (true≢false not_less)
      by Equal is not_less = omega (arith, is)
      by Greater is not_less = omega (arith, is)

  -- what stands between two of a kind is of that kind
  between : (x y z : X) → lower y x ≡ false → lower z y ≡ false → R x z ≡ Equal → R y z ≡ Equal
  between x y z first last is = by (R y z) refl
    where
      by : (r : Ordering) → R y z ≡ r → r ≡ Equal
      by Less at =
          absurd (true≢false (ap (λ q. is_lt (ordering_then q (nat_cmp (n y) (n x)))) (sym (alike_right o x z y is ∙ at)) ∙ first))
      by Equal at = refl
      by Greater at =
          absurd (true≢false (ap (λ q. is_lt (ordering_then q (nat_cmp (n z) (n y)))) (sym (o.antisymm z y ∙ ap ordering_reverse at)) ∙ last))

  pub begins : (k : ℕ) (d : X) → k < length xs → (k ≡ 0) ⊎ (is_eq (R (get_or xs (k - 1) d) (get_or xs k d)) ≡ false)
      → (a : ℕ) → a < length xs → R (get_or xs a d) (get_or xs k d) ≡ Equal → n (get_or xs k d) ≤ n (get_or xs a d)
  begins k d within new a within_too is =
      ⊎_elim
      (λ before. ⊎_elim
      (λ none. absurd (omega (arith, none, before)))
      (λ other. absurd (true≢false (sym (ap is_eq
      (between (get_or xs a d) (get_or xs (k - 1) d) (get_or xs k d) (ordered a (k - 1) d (omega (arith, before)) (omega (arith, within))) (ordered (k - 1) k d (omega arith) within) is)) ∙ other)))
      new)
      (λ after. behind (get_or xs k d) (get_or xs a d) (ordered k a d after within_too) is)
      (cases_lt a k)

or_parts : (a b : Bool) → (a || b) ≡ false → (a ≡ false) × (b ≡ false)
or_parts true b is = absurd (true≢false is)
or_parts false b is = (refl, is)

-- an item that passes a test, and what is known of it
some_item : {X : Type 0} (test : X → Bool) (P : X → Type 0) (xs : List X) → AllByRecursion P xs → list_any test xs ≡ true → (x : X) × (test x ≡ true) × P x
some_item test P [] all is = absurd (true≢false (sym is))
some_item {X} test P (x ∷ xs) all is = by (test x) refl (some_item test P xs all.1) is
  where
    by : (b : Bool) → test x ≡ b → (list_any test xs ≡ true → (y : X) × (test y ≡ true) × P y) → (b || list_any test xs) ≡ true → (y : X) × (test y ≡ true) × P y
    by true here rest is = (x, here, all.0)
    by false here rest is = rest is

-- Where kinds begin, and the repeats that are found on the way.
module _ (order : Placed → Placed → Ordering) (o : IsTotalOrder order) (placed : List Placed) where
  -- the kind of the sample before goes on
  pub goes_on : (index before : ℕ) (x y : Placed) → index < length placed → x ≡ get_or placed (index - 1) x → y ≡ get_or placed index y → is_eq (order x y) ≡ true
      → BeginsKind order placed (index - 1) before → BeginsKind order placed index before
  goes_on index before x y within x_is y_is same begun = record {
    one = begun.one;
    has = begun.has;
    at = begun.at;
    kind = λ d.
        ap (order begun.one) (get_or_default placed index d y within ∙ sym y_is)
        ∙ sym (alike_right o x y begun.one ((Equal-is (order x y)).0 same))
        ∙ ap (order begun.one) x_is ∙ begun.kind x;
    least = begun.least;
  }

  -- another kind begins
  pub starts : IsSorted (placed_cmp order) placed → (index : ℕ) (y : Placed) → index < length placed
      → (index ≡ 0) ⊎ ((x : Placed) × (x ≡ get_or placed (index - 1) x) × (is_eq (order x (get_or placed index y)) ≡ false)) → BeginsKind order placed index (get_or placed index y).place
  starts sorted index y within new =
      let one : Placed = get_or placed index y in
      let at : (d : Placed) → get_or placed index d ≡ one = λ d. get_or_default placed index d y within in
      record {
        one = one;
        has = (index, within, at one);
        at = refl;
        kind = λ d. ap (order one) (at d) ∙ tied_itself o one;
        least = λ k d below is.
            let first = begins order o (λ (p : Placed). p.place) placed sorted index d within
            (⊎_elim (λ none. inl none)
            (λ other. inr (
            (λ j. is_eq (order ((get_or_default placed (index - 1) d other.0 (omega (arith, within)) ∙ sym other.1) j) (at d j))) ∙ other.2)) new)
            k below (ap (order (get_or placed k d)) (at d) ∙ is) in
            subst (λ (p : Placed). p.place ≤ (get_or placed k d).place) (at d) first;
      }

  -- one sample more
  pub found_more : (index first : ℕ) (y : Placed) (repeats now : List Repeat) → index < length placed → FindsRepeats order placed index repeats → BeginsKind order placed index first
      → now ≡ (if nat_lt first (get_or placed index y).place then repeats ++ record { first = first; later = (get_or placed index y).place } ∷ [] else repeats) → FindsRepeats order placed (index + 1) now
  found_more index first y repeats now within found begun is = cases (nat_lt first x.place) refl is
    where
      x : Placed
      x = get_or placed index y

      at : (d : Placed) → get_or placed index d ≡ x
      at d = get_or_default placed index d y within

      further : (list : List Repeat) → ((k : ℕ) (d : Placed) → k < index → is_later list (get_or placed k d).place ≡ false → IsLeast order placed (get_or placed k d))
          → (is_later list x.place ≡ false → IsLeast order placed x)
          → (k : ℕ) (d : Placed) → k < index + 1 → is_later list (get_or placed k d).place ≡ false → IsLeast order placed (get_or placed k d)
      further list before here k d below =
          one_further (λ i. is_later list (get_or placed i d).place ≡ false → IsLeast order placed (get_or placed i d)) index (λ i lower. before i d lower)
          (subst (λ (p : Placed). is_later list p.place ≡ false → IsLeast order placed p) (sym (at d)) here) k below

      more : List Repeat
      more = repeats ++ record { first = first; later = x.place } ∷ []

      split : (place : ℕ) → is_later more place ≡ false → (is_later repeats place ≡ false) × (((x.place == place) || false) ≡ false)
      split place not_later =
          or_parts (is_later repeats place) ((x.place == place) || false)
          (sym (list_any-append (λ (r : Repeat). r.later == place) repeats (record { first = first; later = x.place } ∷ [])) ∙ not_later)

      pushed : first < x.place → FindsRepeats order placed (index + 1) more
      pushed less = record {
        repeated = All-push (IsRepeated order placed) repeats (record { first = first; later = x.place }) found.repeated (record {
          one = begun.one;
          other = x;
          has = begun.has;
          has_other = (index, within, at x);
          first = begun.at;
          later = refl;
          earlier = less;
          kind = begun.kind y;
          least = begun.least;
        });
        others =
            further more (λ k d below not_later. found.others k d below (split (get_or placed k d).place not_later).0)
            (λ not_later. absurd (true≢false (sym (ap (λ b. b || false) (eq-eqb x.place x.place refl)) ∙ (split x.place not_later).1)));
      }

      kept : x.place ≤ first → FindsRepeats order placed (index + 1) repeats
      kept no_less = record {
        repeated = found.repeated;
        others =
            further repeats found.others
            (λ not_later k d below same.
            let lowest = begun.least k d below (alike_right o begun.one x (get_or placed k d) (begun.kind y) ∙ same) in
            omega (arith, lowest, no_less, begun.at));
      }

      cases : (b : Bool) → nat_lt first x.place ≡ b → now ≡ (if b then more else repeats) → FindsRepeats order placed (index + 1) now
      cases true less is = subst (FindsRepeats order placed (index + 1)) (sym is) (pushed (ltb-true first x.place less))
      cases false less is = subst (FindsRepeats order placed (index + 1)) (sym is) (kept (ltb-false first x.place less))

-- Repeats that are put in another order are found as well.
pub found_moved : (order : Placed → Placed → Ordering) (placed : List Placed) (index : ℕ) (repeats now : List Repeat) → IsPermutation repeats now → FindsRepeats order placed index repeats
    → FindsRepeats order placed index now
found_moved order placed index repeats now moved found = record {
  repeated = All-permutation (IsRepeated order placed) repeats now moved found.repeated;
  others = λ k d within not_later.
      found.others k d within (list_any-IsPermutation (λ (r : Repeat). r.later == (get_or placed k d).place) repeats now moved ∙ not_later);
}

-- What is found among the samples of a class.
module _ (by : NewIds) (samples : List Sample) (hashes : List ℕ) (class : ℕ) (hashed : hashes ≡ map (hash_by by) samples) where
  own_stack : (x : Placed) → IsOfClass hashes samples class x → sample_stack (renumbered_sample by x.sample.now) ≡ stack_at by samples x.place
  own_stack x is = ap (λ (s : Sample). sample_stack (renumbered_sample by s)) is.sample

  hash_at : (k : ℕ) → k < length samples → get_or hashes k 0 ≡ stack_hash (stack_at by samples k)
  hash_at k within = ap (λ l. get_or l k 0) hashed ∙ get_or-map (hash_by by) samples k no_sample 0 within

  alike : (x y : Placed) → IsOfClass hashes samples class x → IsOfClass hashes samples class y → hash_stack_cmp by x y ≡ Equal → same_stack (stack_at by samples x.place) (stack_at by samples y.place) ≡ true
  alike x y is_x is_y level =
      (λ j. same_stack (sym (own_stack x is_x) j) (sym (own_stack y is_y) j)) ∙ stack_ties by x.sample.now y.sample.now
      ∙ ap is_eq (both_equal (hash_cmp x y) (stack_cmp by x.sample.now y.sample.now) level).1

  of_kind : (x y : Placed) → IsOfClass hashes samples class x → IsOfClass hashes samples class y → same_stack (stack_at by samples x.place) (stack_at by samples y.place) ≡ true → hash_stack_cmp by x y ≡ Equal
  of_kind x y is_x is_y same =
      let equal = (stack_decides (stack_at by samples x.place) (stack_at by samples y.place)).0 same in
      let hash : x.hash ≡ y.hash = is_x.hash ∙ hash_at x.place is_x.within ∙ ap stack_hash equal ∙ sym (hash_at y.place is_y.within) ∙ sym is_y.hash in
      let level : stack_cmp by x.sample.now y.sample.now ≡ Equal =
      (Equal-is (stack_cmp by x.sample.now y.sample.now)).0
      (sym (stack_ties by x.sample.now y.sample.now) ∙ (λ j. same_stack (own_stack x is_x j) (own_stack y is_y j)) ∙ same) in
      (λ j. ordering_then ((ap (λ h. nat_cmp h y.hash) hash ∙ tied_itself nat_cmp_total y.hash) j) (level j))

  module _ (first placed : List Placed) (are : AreOfClass hashes samples class (length samples) first) (moved : IsPermutation first placed) where
    all_placed : All (IsOfClass hashes samples class) placed
    all_placed = All-permutation (IsOfClass hashes samples class) first placed moved are.are

    stands : (k : ℕ) → k < length samples → class_of (get_or hashes k 0) ≡ class → list_any (λ (one : Placed). one.place == k) placed ≡ true
    stands k within of_class = sym (list_any-IsPermutation (λ (one : Placed). one.place == k) first placed moved) ∙ are.whole k within of_class

    -- what has the least place of its kind is the first of its kind
    is_first : (y : Placed) → IsOfClass hashes samples class y → IsLeast (hash_stack_cmp by) placed y → IsFirst by samples y.place
    is_first y is_y least = λ k below. cases k below (same_stack (stack_at by samples k) (stack_at by samples y.place)) refl
      where
        cases : (k : ℕ) → k < y.place → (b : Bool) → same_stack (stack_at by samples k) (stack_at by samples y.place) ≡ b → b ≡ false
        cases k below false same = refl
        cases k below true same =
            let within : k < length samples = omega (arith, below, is_y.within) in
            let equal = (stack_decides (stack_at by samples k) (stack_at by samples y.place)).0 same in
            let hash : get_or hashes k 0 ≡ y.hash = hash_at k within ∙ ap stack_hash equal ∙ sym (hash_at y.place is_y.within) ∙ sym is_y.hash in
            let (x, here, (is_x, lowest)) =
            some_item (λ (one : Placed). one.place == k) (λ (one : Placed). IsOfClass hashes samples class one × (hash_stack_cmp by one y ≡ Equal → y.place ≤ one.place)) placed
            (by_recursion _ placed (λ i d inside. (all_placed i d inside, least i d inside))) (stands k within (ap class_of hash ∙ is_y.of_class)) in
            let at : x.place ≡ k = eqb-true x.place k here in
            absurd (omega (arith, below, at, lowest (of_kind x y is_x is_y (ap (λ i. same_stack (stack_at by samples i) (stack_at by samples y.place)) at ∙ same))))

    is_one : (one : Placed) → Contains placed one → IsOfClass hashes samples class one
    is_one one has = All-contains (IsOfClass hashes samples class) placed one all_placed has

    is_repeat : (r : Repeat) → IsRepeated (hash_stack_cmp by) placed r → IsRepeat by samples r
    is_repeat r is = record {
      earlier = is.earlier;
      within = subst (λ k. k < length samples) (sym is.later) (is_one is.other is.has_other).within;
      same =
          (λ j. same_stack (stack_at by samples (is.first j)) (stack_at by samples (is.later j)))
          ∙ alike is.one is.other (is_one is.one is.has) (is_one is.other is.has_other) is.kind;
      first = subst (IsFirst by samples) (sym is.first) (is_first is.one (is_one is.one is.has) is.least);
    }

    pub class_found : (repeats : List Repeat) → FindsRepeats (hash_stack_cmp by) placed (length placed) repeats → FindsOfClass by samples class repeats
    class_found repeats found = record {
      repeated = All-weaker (IsRepeated (hash_stack_cmp by) placed) (IsRepeat by samples) is_repeat repeats found.repeated;
      others = λ place within of_class not_later.
          let (x, here, (is_x, least)) =
          some_item (λ (one : Placed). one.place == place)
          (λ (one : Placed). IsOfClass hashes samples class one × (is_later repeats one.place ≡ false → IsLeast (hash_stack_cmp by) placed one)) placed
          (by_recursion _ placed (λ i d inside. (all_placed i d inside, found.others i d inside))) (stands place within (ap class_of (hash_at place within) ∙ of_class)) in
          let at : x.place ≡ place = eqb-true x.place place here in
          subst (IsFirst by samples) at (is_first x is_x (least (ap (is_later repeats) at ∙ not_later)));
    }

    -- what has the least place among those of its hash has it among those of its kind
    least_too : (one : Placed) → IsLeast hash_cmp placed one → IsLeast (hash_stack_cmp by) placed one
    least_too one least k d within level =
        least k d within (both_equal (hash_cmp (get_or placed k d) one) (stack_cmp by (get_or placed k d).sample.now one.sample.now) level).0

    -- what is found by hashes alone
    module _ (repeats : List Repeat) (found : FindsRepeats hash_cmp placed (length placed) repeats) where
      pub pairs_found : All (IsPair (length samples)) repeats
      pairs_found =
          All-weaker (IsRepeated hash_cmp placed) (IsPair (length samples))
          (λ r is. record {
            earlier = is.earlier;
            within = subst (λ k. k < length samples) (sym is.later) (is_one is.other is.has_other).within;
          })
          repeats found.repeated

      pub equal_found : All (AreEqual by samples) repeats → FindsOfClass by samples class repeats
      equal_found equal =
          class_found repeats (record {
            repeated = λ i d within.
                let is = found.repeated i d within in
                record {
                  one = is.one;
                  other = is.other;
                  has = is.has;
                  has_other = is.has_other;
                  first = is.first;
                  later = is.later;
                  earlier = is.earlier;
                  kind =
                      of_kind is.one is.other (is_one is.one is.has) (is_one is.other is.has_other)
                      ((λ j. same_stack (stack_at by samples (sym is.first j)) (stack_at by samples (sym is.later j))) ∙ equal i d within);
                  least = least_too is.one is.least;
                };
            others = λ k d within not_later. least_too (get_or placed k d) (found.others k d within not_later);
          })

-- one class more
pub class_more : (by : NewIds) (samples : List Sample) (class : ℕ) (all part now : List Repeat) → FindsBelow by samples class all → FindsOfClass by samples class part → now ≡ all ++ part
    → FindsBelow by samples (class + 1) now
class_more by samples class all part now below found is = subst (FindsBelow by samples (class + 1)) (sym is) (record {
  repeated = All-append (IsRepeat by samples) all part below.repeated found.repeated;
  others = λ place within lower not_later.
      let (front, back) = or_parts (is_later all place) (is_later part place) (sym (list_any-append (λ (r : Repeat). r.later == place) all part) ∙ not_later) in
      ⊎_elim
      (λ before. below.others place within before front)
      (λ last. found.others place within (omega (arith, lower, last)) back)
      (cases_lt (class_of (hash_by by (get_or samples place no_sample))) class);
})
