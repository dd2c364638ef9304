-- Lines of tags in their order are what the report lists.
use Rattle.std.proofs.Common.{◌≡◌, ℕ, ◌+◌, ◌<◌, zero, suc, Bool, true, false, cond, not, nat_abs, List, [], ◌∷◌, ◌++◌, map, length, take, get_or, slice_index_or, All, refl, sym, ap, subst, ◌∙◌, append_assoc, arith}
use Rattle.std.specs.List.{flat_map, AllByRecursion, IsDistinct}
use Rattle.std.specs.List.Sorted.{IsSorted, IsSortedBy}
use Rattle.std.specs.Ordering.{bool_cmp, int_cmp, ordering_then, is_lt}
use Rattle.std.specs.Prelude.{slice_get, Some}
use Rattle.std.proofs.lemmas.Option.{get_or_from_slice_get}
use Rattle.std.specs.Cmp.{IsTotalOrder, IsEquivalence, bool_cmp_total, tied_itself}
use Rattle.std.specs.declared.cmp.Ordering.{Ordering}
use Rattle.std.specs.declared.cmp.Ordering.TheVariants.{Less, Equal, Greater}
use Rattle.std.specs.FinMap as finite
use Rattle.std.specs.FinMap.{nat_cmp-IsAntisymmetric, int_cmp-IsAntisymmetric, slice_cmp-IsAntisymmetric}
use Rattle.std.proofs.lemmas.Cmp.{on_total, then_total, back_total, int_cmp_total, nat_list_cmp_total, nat_cmp_total}
use Rattle.std.proofs.lemmas.List.{append-nil, take_more, length-map, get_or_default}
use Rattle.std.proofs.lemmas.Grind.{flat_map-append}
use Rattle.std.proofs.lemmas.List.Elements.{All-get_or}
use Rattle.std.proofs.lemmas.Slice.Eq.{bytes_eq-Decides}
use Rattle.pp_base.proofs.Booleans.{same_bool}
use Rattle.pp_base.proofs.Orders.{both_equal}
use Rattle.pp_model.specs.FirstSight.{place_of}
use Rattle.pp_model.proofs.FirstSightLemmas.{distinct_apart}
use Rattle.pp_samples.specs.declared.tag_table.TagSum.{TagSum}
use Rattle.pp_samples.specs.TagLines.{TagTexts, bytes_cmp, shown_tag_cmp, same_tag, has_label_key}
use Rattle.pp_samples.specs.Names.{tag_value_cmp}
use Rattle.pp_samples.specs.Tables.{Event, IsTable, no_tag_sum, sum_of, events_with}
use Rattle.pp_samples.specs.Ranked.{RankedTag, no_tag, table_tags, event_entry, entry_cmp}
use Rattle.pp_samples.proofs.TagNamesLemmas.{tag_decides}

-- one line more
pub lines_more : {X : Type 0} (f : X → List ℕ) (old out new : List ℕ) (lines : List X) (i : ℕ) (x : X) → i < length lines → x ≡ get_or lines i x
    → out ≡ old ++ flat_map f (take i lines) → new ≡ out ++ f x → new ≡ old ++ flat_map f (take (i + 1) lines)
lines_more f old out new lines i x here is before now =
    now ∙ ap (λ o. o ++ f x) before ∙ append_assoc old (flat_map f (take i lines)) (f x)
    ∙ ap (λ o. old ++ o)
    (ap (λ o. flat_map f (take i lines) ++ o) (sym (append-nil (f x)) ∙ ap (λ y. f y ++ []) is) ∙ sym (flat_map-append f (take i lines) (get_or lines i x ∷ []))
    ∙ ap (flat_map f) (sym (take_more lines i x here)))

-- the orders are total, and only what is the same ties
pub tag_cmp_total : IsTotalOrder shown_tag_cmp
tag_cmp_total =
    then_total
    (then_total
    (then_total
    (then_total (on_total (λ (t : TagTexts). t.key) nat_list_cmp_total) (on_total (λ (t : TagTexts). t.is_number) bool_cmp_total))
    (on_total (λ (t : TagTexts). t.text) nat_list_cmp_total))
    (on_total (λ (t : TagTexts). t.num) int_cmp_total))
    (on_total (λ (t : TagTexts). t.unit) nat_list_cmp_total)

pub tag_cmp_ties : finite.IsAntisymmetric shown_tag_cmp
tag_cmp_ties a b tie =
    let unit = both_equal _ _ tie in
    let num = both_equal _ _ unit.0 in
    let text = both_equal _ _ num.0 in
    let kind = both_equal _ _ text.0 in
    λ i. record {
      key = slice_cmp-IsAntisymmetric nat_cmp-IsAntisymmetric a.key b.key kind.0 i;
      is_number = kinds a.is_number b.is_number kind.1 i;
      text = slice_cmp-IsAntisymmetric nat_cmp-IsAntisymmetric a.text b.text text.1 i;
      num = int_cmp-IsAntisymmetric a.num b.num num.1 i;
      unit = slice_cmp-IsAntisymmetric nat_cmp-IsAntisymmetric a.unit b.unit unit.1 i;
    } where
      kinds : (a b : Bool) → bool_cmp a b ≡ Equal → a ≡ b
      kinds true true e = refl
      kinds false false e = refl
      kinds true false e = let no : ⊥ = cc in absurd no
      kinds false true e = let no : ⊥ = cc in absurd no

pub tag_value_total : IsTotalOrder tag_value_cmp
tag_value_total =
    then_total (on_total (λ (t : TagTexts). t.is_number) bool_cmp_total)
    (then_total (on_total (λ (t : TagTexts). t.text) nat_list_cmp_total)
    (then_total (on_total (λ (t : TagTexts). t.num) int_cmp_total) (on_total (λ (t : TagTexts). t.unit) nat_list_cmp_total)))

nested : (kinds texts numbers units : Ordering)
    → ordering_then (ordering_then (ordering_then kinds texts) numbers) units ≡ ordering_then kinds (ordering_then texts (ordering_then numbers units))
nested Less texts numbers units = refl
nested Greater texts numbers units = refl
nested Equal Less numbers units = refl
nested Equal Greater numbers units = refl
nested Equal Equal numbers units = refl

-- tags of one key are ordered by their values
pub values_decide : (key : List ℕ) (a b : TagTexts) → has_label_key key a ≡ true → has_label_key key b ≡ true → shown_tag_cmp a b ≡ tag_value_cmp a b
values_decide key a b left right =
    let same : a.key ≡ b.key = sym ((bytes_eq-Decides key a.key).0 left) ∙ (bytes_eq-Decides key b.key).0 right in
    let tie : bytes_cmp a.key b.key ≡ Equal = subst (λ (k : List ℕ). bytes_cmp a.key k ≡ Equal) same (tied_itself nat_list_cmp_total a.key) in
    let kinds = bool_cmp a.is_number b.is_number in
    let texts = bytes_cmp a.text b.text in
    let numbers = int_cmp a.num b.num in
    let units = bytes_cmp a.unit b.unit in
    ap (λ (keys : Ordering). ordering_then (ordering_then (ordering_then (ordering_then keys kinds) texts) numbers) units) tie
    ∙ nested kinds texts numbers units

-- entries are ordered by their sums and values
pub entry_total : IsTotalOrder entry_cmp
entry_total = then_total (back_total (on_total (λ (e : RankedTag). nat_abs e.sum.sum) nat_cmp_total)) (on_total (λ (e : RankedTag). e.tag) tag_value_total)

pub bytes_cmp_ties : finite.IsAntisymmetric bytes_cmp
bytes_cmp_ties a b tie = slice_cmp-IsAntisymmetric nat_cmp-IsAntisymmetric a b tie

-- What is sorted by an order of its own is sorted by an order that says the same of what it stands for.
module _ {A B : Type 0} (f : A → B) (P : A → Type 0) (R : B → B → Ordering) (cmp : A → A → Ordering)
    (same : (a b : A) → P a → P b → R (f a) (f b) ≡ cmp a b) where
  get_or-map_within : (xs : List A) (j : ℕ) (d : B) (e : A) → j < length xs → get_or (map f xs) j d ≡ f (get_or xs j e)
  get_or-map_within [] j d e h = absurd (omega (arith, h))
  get_or-map_within (x ∷ xs) zero d e h = refl
  get_or-map_within (x ∷ xs) (suc j) d e h = get_or-map_within xs j d e (omega (arith, h))

  pub sorted_as : (xs : List A) → All P xs → IsSortedBy (λ a b. is_lt (cmp a b)) xs → IsSorted R (map f xs)
  sorted_as [] all sorted = λ k d low high. absurd (omega (arith, low, high))
  sorted_as (x ∷ xs) all sorted = λ k d low high.
      let ys : List A = x ∷ xs in
      let len : length (map f ys) ≡ length ys = length-map ys f in
      let here : k < length ys = omega (arith, len, low, high) in
      let next : k + 1 < length ys = omega (arith, len, low, high) in
      (λ i. is_lt (R (get_or-map_within ys (k + 1) d x next i) (get_or-map_within ys k d x here i)))
      ∙ ap is_lt (same (get_or ys (k + 1) x) (get_or ys k x) (All-get_or P ys (k + 1) x next all) (All-get_or P ys k x here all))
      ∙ sorted k x low next

pub tag_symm : (a b : TagTexts) → same_tag a b ≡ same_tag b a
tag_symm a b = same_bool _ _ (λ e. (tag_decides b a).1 (sym ((tag_decides a b).0 e))) (λ e. (tag_decides a b).1 (sym ((tag_decides b a).0 e)))

pub tag_laws : IsEquivalence same_tag
tag_laws = record {
  refl = λ a. (tag_decides a a).1 refl;
  symm = tag_symm;
  congr = λ a b c is. ap (λ (x : TagTexts). same_tag x c) ((tag_decides a b).0 is);
}

-- Where the tags of a list differ, each stands at its own place.
pub at_all : {X : Type 0} (P : X → Type 0) (xs : List X) (i : ℕ) (d : X) → AllByRecursion P xs → i < length xs → P (get_or xs i d)
at_all P [] i d all here = absurd (omega (arith, here))
at_all P (x ∷ xs) zero d all here = all.0
at_all P (x ∷ xs) (suc i) d all here = at_all P xs i d all.1 (omega (arith, here))

pub place_at : (names : List TagTexts) (i : ℕ) (d : TagTexts) → IsDistinct same_tag names → i < length names → place_of same_tag names (get_or names i d) ≡ i
unfolding IsDistinct
place_at [] i d apart here = absurd (omega (arith, here))
place_at (x ∷ xs) zero d apart here = ap (λ (b : Bool). cond (not b) (1 + place_of same_tag xs x) 0) ((tag_decides x x).1 refl)
place_at (x ∷ xs) (suc i) d apart here =
    let inside : i < length xs = omega (arith, here) in
    let y : TagTexts = get_or xs i d in
    ap (λ (b : Bool). cond (not b) (1 + place_of same_tag xs y) 0) (tag_symm y x ∙ at_all (λ z. same_tag x z ≡ false) xs i d apart.0 inside)
    ∙ ap (λ (n : ℕ). 1 + n) (place_at xs i d apart.1 inside) ∙ (let e : 1 + i ≡ suc i = omega arith in e)

-- the tags of a table differ
pub tags_apart : (events : List Event) → IsDistinct same_tag (table_tags events)
tags_apart events = distinct_apart same_tag tag_laws (map (λ e. e.tag) events)

-- what a table says of the tag with a number
pub entry_is : (events : List Event) (names : List TagTexts) (sums : List TagSum) → IsTable events names sums → (n : ℕ) (x : TagTexts) (s : TagSum)
    → n < length names → slice_get names n ≡ Some x → s ≡ get_or sums n s
    → record { tag = x; sum = s; number = n } ≡ event_entry events (get_or names n no_tag)
entry_is events names sums is n x s here named at =
    let tag : TagTexts = get_or names n no_tag in
    let apart : IsDistinct same_tag names = subst (IsDistinct same_tag) (sym is.tags) (tags_apart events) in
    let place : place_of same_tag names tag ≡ n = place_at names n no_tag apart here in
    let inside : n < length sums = omega (arith, here, is.count) in
    let sum : s ≡ sum_of (events_with tag events) =
    at ∙ get_or_default sums n s no_tag_sum inside ∙ ap (λ (k : ℕ). slice_index_or sums k no_tag_sum) (sym place) ∙ is.added tag in
    λ i. record {
      tag = sym (get_or_from_slice_get names n x no_tag named) i;
      sum = sum i;
      number = (sym place ∙ ap (λ ts. place_of same_tag ts tag) is.tags) i;
    }
