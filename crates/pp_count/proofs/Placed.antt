-- The places of keys, of which each has its own.
use Rattle.std.proofs.Common.{◌≡◌, ℕ, zero, suc, ◌+◌, ◌<◌, List, length, get_or, set, replicate, All, Option, Some, None, refl, sym, ap, ◌∙◌, arith, inl, inr}
use Rattle.std.specs.Option.{is_some, unwrap_or}
use Rattle.std.proofs.lemmas.Bool.{false≢true, cases_eq}
use Rattle.std.proofs.lemmas.List.{length-set, get_or-set_same, get_or-set_other, get_or_default, length-replicate}
use Rattle.pp_count.specs.Edges.{AreOnce, ArePairPlaces}

-- The first keys have their places, and no other key has one.
pub record PlacedTo (keys : List ℕ) (numbers i : ℕ) (place : List (Option ℕ)) : Type 0 where
  pub count : length place ≡ numbers
  pub found : (q : ℕ) → q < i → get_or place (get_or keys q 0) None ≡ Some q
  pub only : (k q : ℕ) → get_or place k None ≡ Some q → (q < i) × (get_or keys q 0 ≡ k)

never : (numbers k : ℕ) → get_or (replicate {A = Option ℕ} numbers None) k None ≡ None
never zero k = refl
never (suc numbers) zero = refl
never (suc numbers) (suc k) = never numbers k

none_some : (q : ℕ) → None ≡ Some q → ⊥
none_some q is = false≢true (ap is_some is)

pub placed_none : (keys : List ℕ) (numbers : ℕ) (place : List (Option ℕ)) → place ≡ replicate numbers None → PlacedTo keys numbers 0 place
placed_none keys numbers place is = record {
  count = ap length is ∙ length-replicate numbers None;
  found = λ q here. absurd (omega (arith, here));
  only = λ k q at. absurd (none_some q (sym (ap (λ os. get_or os k None) is ∙ never numbers k) ∙ at));
}

-- one more key
pub placed_more : (keys : List ℕ) (numbers i d : ℕ) (place : List (Option ℕ)) → i < length keys → AreOnce keys → All (λ k. k < numbers) keys
    → PlacedTo keys numbers i place → PlacedTo keys numbers (i + 1) (set place (get_or keys i d) (Some i))
placed_more keys numbers i d place here once below so_far =
    let key : ℕ = get_or keys i d in
    let is_key : key ≡ get_or keys i 0 = get_or_default keys i d 0 here in
    let inside : key < length place = omega (arith, below i d here, so_far.count) in
    let new : List (Option ℕ) = set place key (Some i) in
    let at_key : get_or new key None ≡ Some i = get_or-set_same place key (Some i) None inside in
    record {
      count = length-set place key (Some i) ∙ so_far.count;
      found = λ q before. elim (cases_eq q i) [
        | inl same ↦ ap (λ j. get_or new (get_or keys j 0) None) same ∙ ap (λ k. get_or new k None) (sym is_key) ∙ at_key ∙ ap Some (sym same)
        | inr other ↦ get_or-set_other place key (get_or keys q 0) (Some i) None
            (λ same. other (once q i (omega (arith, before, here)) here (same ∙ is_key)))
            ∙ so_far.found q (omega (arith, before, other))
      ];
      only = λ k q at. elim (cases_eq k key) [
        | inl same ↦
            let is : q ≡ i = ap (λ o. unwrap_or o 0) (sym at ∙ ap (λ j. get_or new j None) same ∙ at_key) in
            (omega (arith, is), ap (λ j. get_or keys j 0) is ∙ sym is_key ∙ sym same)
        | inr other ↦
            let old = so_far.only k q (sym (get_or-set_other place key k (Some i) None other) ∙ at) in
            (omega (arith, old.0), old.1)
      ];
    }

pub placed_all : (keys : List ℕ) (numbers i : ℕ) (place : List (Option ℕ)) → i ≡ length keys → PlacedTo keys numbers i place → ArePairPlaces keys place
placed_all keys numbers i place all so_far = record {
  found = λ q here. so_far.found q (omega (arith, here, all));
  only = λ k q at. let old = so_far.only k q at in (omega (arith, old.0, all), old.1);
}
