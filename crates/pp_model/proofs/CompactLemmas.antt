-- Where each id is its place plus 1, what has an id is found at its place.
use Rattle.std.proofs.Common.{◌≡◌, ◌≢◌, ℕ, ◌+◌, ◌-◌, ◌<◌, ◌≤◌, List, length, map, get_or, sym, ap, ◌∙◌, inl, inr, arith}
use Rattle.std.specs.Prelude.{◌==◌, find, slice_get, Some, None, Contains}
use Rattle.std.proofs.lemmas.Bool.{eq-eqb, ne_eqb, cases_eq, cases_lt, cond-true, cond-false}
use Rattle.std.proofs.lemmas.List.{get_or-map, get_or_default, length-map}
use Rattle.std.proofs.lemmas.List.Folds.{find_at}
use Rattle.std.proofs.lemmas.List.Sums.{position_or_len_is}
use Rattle.std.proofs.lemmas.Option.{slice_get-get_or, slice_get_past}
use Rattle.pp_model.specs.Rules.{AreNumbered}
use Rattle.pp_model.specs.Lookup.{place_read}

-- an id of the list is a place plus 1
pub place_of : (ids : List ℕ) (id : ℕ) → AreNumbered ids → Contains ids id → (k : ℕ) × (k < length ids) × (id ≡ k + 1)
place_of ids id numbered (k, within, is) = (k, within, sym is ∙ get_or_default ids k id 0 within ∙ numbered k within)

-- an id of the list is not 0
pub one_le_id : (ids : List ℕ) (id : ℕ) → AreNumbered ids → Contains ids id → 1 ≤ id
one_le_id ids id numbered inside = let (k, within, is) = place_of ids id numbered inside in omega (arith, is)

-- its place is one of the list
pub place_within : (ids : List ℕ) (id : ℕ) → AreNumbered ids → Contains ids id → id - 1 < length ids
place_within ids id numbered inside = let (k, within, is) = place_of ids id numbered inside in omega (arith, is, within)

-- the item at place k has the id k + 1
pub id_at : {X : Type 0} (f : X → ℕ) (xs : List X) (k : ℕ) (d : X) → AreNumbered (map f xs) → k < length xs → f (get_or xs k d) ≡ k + 1
id_at f xs k d numbered within =
    sym (get_or-map f xs k d 0 within) ∙ numbered k (omega (arith, within, length-map xs f))

-- a search by id finds the item at the place
pub find_numbered :
    {X : Type 0} (f : X → ℕ) (xs : List X) (k id : ℕ) (d : X) → AreNumbered (map f xs) → k < length xs → id ≡ k + 1 →
    find (λ x. f x == id) xs ≡ Some (get_or xs k d)
find_numbered f xs k id d numbered within is =
    find_at (λ x. f x == id) xs
    ∙ ap (slice_get xs) (position_or_len_is (λ x. f x == id) xs k d (omega (arith, within))
    (λ j below. ne_eqb _ _ (λ e. let own : f (get_or xs j d) ≡ j + 1 = id_at f xs j d numbered (omega (arith, below, within)) in omega (arith, e, own, is, below)))
    (λ _. eq-eqb _ _ (id_at f xs k d numbered within ∙ sym is)))
    ∙ slice_get-get_or xs k d within

-- no item has the id
find_none :
    {X : Type 0} (f : X → ℕ) (xs : List X) (id : ℕ) (d : X) → ((k : ℕ) → k < length xs → f (get_or xs k d) ≢ id) → find (λ x. f x == id) xs ≡ None
find_none f xs id d other =
    find_at (λ x. f x == id) xs
    ∙ ap (slice_get xs) (position_or_len_is (λ x. f x == id) xs (length xs) d (omega arith) (λ k below. ne_eqb _ _ (other k below)) (λ h. absurd (omega (arith, h))))
    ∙ slice_get_past xs (length xs) (omega arith)

-- a read at the place that the id says is a search by the id
pub find_by_place :
    {X : Type 0} (f : X → ℕ) (xs : List X) (id : ℕ) (d : X) → AreNumbered (map f xs) → place_read xs id ≡ find (λ x. f x == id) xs
find_by_place f xs id d numbered = elim (cases_eq id 0) [
  | inl zero ↦
      cond-true _ _ _ (eq-eqb id 0 zero)
      ∙ sym (find_none f xs id d (λ k below e. let own : f (get_or xs k d) ≡ k + 1 = id_at f xs k d numbered below in omega (arith, own, e, zero)))
  | inr nonzero ↦ cond-false _ _ _ (ne_eqb id 0 nonzero) ∙ elim (cases_lt (id - 1) (length xs)) [
    | inl within ↦
        slice_get-get_or xs (id - 1) d within ∙ sym (find_numbered f xs (id - 1) id d numbered within (omega (arith, nonzero)))
    | inr past ↦
        slice_get_past xs (id - 1) past
        ∙ sym (find_none f xs id d (λ k below e. let own : f (get_or xs k d) ≡ k + 1 = id_at f xs k d numbered below in omega (arith, own, e, past, below)))
  ]
]

-- the id of a place is one of the list
pub contains_id : (ids : List ℕ) (k : ℕ) → AreNumbered ids → k < length ids → Contains ids (k + 1)
contains_id ids k numbered within = (k, within, get_or_default ids k (k + 1) 0 within ∙ numbered k within)
