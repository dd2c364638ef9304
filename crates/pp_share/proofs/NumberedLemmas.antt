-- What holds of each item, and ids that are places plus 1 under the table rules.
use Rattle.std.proofs.Common.{◌≡◌, ℕ, ◌+◌, ◌<◌, Bool, true, false, cond, not, ◌&&◌, List, [], ◌∷◌, ◌++◌, map, length, take, get_or, refl, sym, ap, subst, ◌∙◌, arith, zero-add}
use Rattle.std.proofs.lemmas.Option.{none-some, same_Some}
use Rattle.std.proofs.lemmas.List.Elements.{recursion_from_All}
use Rattle.std.specs.Prelude.{Option, None, Some, ◌==◌, nat_lt, slice_index, position}
use Rattle.std.specs.List.{AllByRecursion, flat_map, filter_map, cons_option, list_all, position_or_len, range_with_len}
use Rattle.std.proofs.lemmas.Bool.{lt-ltb, le-ltb, eq-eqb}
use Rattle.std.proofs.lemmas.List.{get_or_default, get_or-take, length-take}
use Rattle.std.proofs.lemmas.List.Folds.{list_any_at}
use Rattle.std.proofs.lemmas.List.FromFn.{get_or-range_with_len, length-range_with_len}
use Rattle.pp_base.proofs.Lists.{all_by}
use Rattle.pp_model.specs.Words.{AreNumbered, stands_in, first_failing, first_repeated}
use Rattle.pp_model.proofs.RuleLemmas.{contains_from}

module _ {A : Type 0} (P : A → Type 0) where
  -- of the items in front
  pub all_front : (xs ys : List A) → AllByRecursion P (xs ++ ys) → AllByRecursion P xs
  all_front [] ys all = tt
  all_front (x ∷ xs) ys all = (all.0, all_front xs ys all.1)

  -- of the items behind
  pub all_behind : (xs ys : List A) → AllByRecursion P (xs ++ ys) → AllByRecursion P ys
  all_behind [] ys all = all
  all_behind (x ∷ xs) ys all = all_behind xs ys all.1

  -- of the items of each part
  pub all_parts : {B : Type 0} (f : B → List A) (xs : List B) → AllByRecursion P (flat_map f xs) → AllByRecursion (λ x. AllByRecursion P (f x)) xs
  all_parts f [] all = tt
  all_parts f (x ∷ xs) all = (all_front (f x) (flat_map f xs) all, all_parts f xs (all_behind (f x) (flat_map f xs) all))

  -- of each item that is there
  pub all_there : {B : Type 0} (f : B → Option A) (xs : List B) → AllByRecursion P (filter_map f xs) → AllByRecursion (λ x. (y : A) → f x ≡ Some y → P y) xs
  all_there f [] all = tt
  all_there {B} f (x ∷ xs) all = by (f x) refl (all_there f xs) all
    where
      by : (o : Option A) → f x ≡ o → (AllByRecursion P (filter_map f xs) → AllByRecursion (λ z. (y : A) → f z ≡ Some y → P y) xs)
          → AllByRecursion P (cons_option o (filter_map f xs)) → AllByRecursion (λ z. (y : A) → f z ≡ Some y → P y) (x ∷ xs)
      by None is go rest = (λ y some. absurd (none-some y (sym is ∙ some)), go rest)
      by (Some z) is go rest = (λ y some. subst P (same_Some z y (sym is ∙ some)) rest.0, go rest.1)

-- a test that no item passes finds nothing
pub none_found : {A : Type 0} (test : A → Bool) (xs : List A) → AllByRecursion (λ x. test x ≡ false) xs → position test xs ≡ None
none_found test xs all =
    ap (λ n. cond (nat_lt n (length xs)) (Some n) None) (past xs all) ∙ ap (λ b. cond b (Some (length xs)) None) (le-ltb (length xs) (length xs) (omega arith))
  where
    past : (ys : List _) → AllByRecursion (λ x. test x ≡ false) ys → position_or_len test ys ≡ length ys
    past [] all = refl
    past (y ∷ ys) all = ap (λ b. cond (not b) (1 + position_or_len test ys) 0) all.0 ∙ omega (arith, past ys all.1)

-- a test that each item passes fails nowhere
pub nowhere : {A : Type 0} (test : A → Bool) (xs : List A) → AllByRecursion (λ x. test x ≡ true) xs → first_failing test xs ≡ None
nowhere test xs all = none_found (λ x. not (test x)) xs (all_by (λ x. test x ≡ true) (λ x. not (test x) ≡ false) (λ x h. ap not h) xs all)

-- two facts of each item
pub all_both : {A : Type 0} (P Q : A → Type 0) (xs : List A) → AllByRecursion P xs → AllByRecursion Q xs → AllByRecursion (λ x. P x × Q x) xs
all_both P Q [] first second = tt
all_both P Q (x ∷ xs) first second = ((first.0, second.0), all_both P Q xs first.1 second.1)

-- what each item is mapped to
pub all_mapped : {A B : Type 0} (P : B → Type 0) (f : A → B) (xs : List A) → AllByRecursion (λ x. P (f x)) xs → AllByRecursion P (map f xs)
all_mapped P f [] all = tt
all_mapped P f (x ∷ xs) all = (all.0, all_mapped P f xs all.1)

-- a test that each item passes
pub all_pass : {A : Type 0} (test : A → Bool) (xs : List A) → AllByRecursion (λ x. test x ≡ true) xs → list_all test xs ≡ true
all_pass test [] all = refl
all_pass test (x ∷ xs) all = ap (λ b. b && list_all test xs) all.0 ∙ all_pass test xs all.1

-- no id that is a place plus 1 is 0
pub nonzero : (ids : List ℕ) → AreNumbered ids → first_failing (λ id. nat_lt 0 id) ids ≡ None
nonzero ids numbered = nowhere (λ id. nat_lt 0 id) ids (recursion_from_All (λ id. nat_lt 0 id ≡ true) ids
    (λ k d within. lt-ltb 0 _ (let is : get_or ids k d ≡ k + 1 = get_or_default ids k d 0 within ∙ numbered k within in omega (arith, is))))

-- nor is it the id of an earlier place
not_earlier : (ids : List ℕ) (k : ℕ) → AreNumbered ids → k < length ids → stands_in (take k ids) (slice_index ids k) ≡ false
not_earlier ids k numbered within = by (stands_in (take k ids) (slice_index ids k)) refl
  where
    by : (b : Bool) → stands_in (take k ids) (slice_index ids k) ≡ b → b ≡ false
    by false is = refl
    by true is =
        let (j, low, at) = contains_from (take k ids) (slice_index ids k) is in
        let below : j < k = omega (arith, low, length-take k ids) in
        let own : get_or ids j 0 ≡ j + 1 = numbered j (omega (arith, below, within)) in
        let here : get_or ids k 0 ≡ k + 1 = numbered k within in
        let there : get_or (take k ids) j (slice_index ids k) ≡ get_or ids j (slice_index ids k) = get_or-take k ids j _ below in
        let same : get_or ids j (slice_index ids k) ≡ get_or ids j 0 = get_or_default ids j _ 0 (omega (arith, below, within)) in
        absurd (omega (arith, at, own, here, there, same, below))

-- so none is repeated
pub unrepeated : (ids : List ℕ) → AreNumbered ids → first_repeated ids ≡ None
unrepeated ids numbered =
    let n = length ids in
    none_found (λ k. stands_in (take k ids) (slice_index ids k)) (range_with_len 0 n)
    (recursion_from_All (λ k. stands_in (take k ids) (slice_index ids k) ≡ false) (range_with_len 0 n)
    (λ k d within. let low : k < n = omega (arith, within, length-range_with_len 0 n) in
    ap (λ i. stands_in (take i ids) (slice_index ids i)) (get_or-range_with_len 0 n k d low ∙ zero-add k) ∙ not_earlier ids k numbered low))

-- a place plus 1 is one of the ids
pub stands_at : (ids : List ℕ) (k : ℕ) → AreNumbered ids → k < length ids → stands_in ids (k + 1) ≡ true
stands_at ids k numbered within = list_any_at (λ other. other == k + 1) ids k 0 within (eq-eqb _ _ (numbered k within))
