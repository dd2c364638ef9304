-- What is read of slots and nodes after one of them is changed.
use Rattle.std.proofs.Common.{◌≡◌, ◌≢◌, ℕ, zero, suc, eqb, ◌+◌, ◌<◌, ◌≤◌, Bool, true, false, cond, List, [], ◌∷◌, length, map, get_or, set, Option, Some, None, inl, inr, ◌⊎◌, refl, sym, ap, subst, ◌∙◌, arith}
use Rattle.std.specs.Option.{is_none}
use Rattle.std.proofs.Math.Seq.{map-set_same}
use Rattle.std.proofs.lemmas.Bool.{cases_eq, eq-eqb}
use Rattle.std.proofs.lemmas.Option.{none-some}
use Rattle.std.proofs.lemmas.List.{get_or-set_same, get_or-set_other, length-set}
use Rattle.pp_graph.specs.declared.slot.EdgeSlot.{EdgeSlot}
use Rattle.pp_graph.specs.declared.slot.Spot.{Spot}
use Rattle.pp_graph.specs.declared.slot.Side.{Side}
use Rattle.pp_graph.specs.declared.slot.Side.TheVariants.{Out, In}
use Rattle.pp_graph.specs.Chains.{holds_number}
use Rattle.pp_graph.specs.Slots.{hooks, hooks_at, next_at, prev_at, first_of_side, first_at, side_end, end_at, slot_at, spot_at, slot_edge, with_next, with_prev, with_first, next_set, prev_set, first_set, HasLinks, unlinked_slots, unlinked_spots, linked_slots, linked_spots}
use Rattle.pp_graph.proofs.Chaining.{eqb-not, number_is, number_not, Bridges}

-- the side on which nothing is changed
abbrev pub other : Side → Side
other Out = In
other In = Out

module _ {X A : Type 0} (g : X → A) (d : X) where
  pub read_set : (xs : List X) (at k : ℕ) (new : X) → at < length xs → g (get_or (set xs at new) k d) ≡ cond (eqb at k) (g new) (g (get_or xs k d))
  read_set xs at k new within = elim (cases_eq at k) [
    | inl is ↦ ap (λ j. g (get_or (set xs at new) j d)) (sym is) ∙ ap g (get_or-set_same xs at new d within) ∙ ap (λ b. cond b (g new) (g (get_or xs k d))) (sym (eq-eqb at k is))
    | inr apart ↦ ap g (get_or-set_other xs at k new d (λ is. apart (sym is))) ∙ ap (λ b. cond b (g new) (g (get_or xs k d))) (sym (eqb-not at k apart))
  ]

  pub read_kept : (xs : List X) (at k : ℕ) (new : X) → at < length xs → g new ≡ g (get_or xs at d) → g (get_or (set xs at new) k d) ≡ g (get_or xs k d)
  read_kept xs at k new within same = elim (cases_eq at k) [
    | inl is ↦ ap (λ j. g (get_or (set xs at new) j d)) (sym is) ∙ ap g (get_or-set_same xs at new d within) ∙ same ∙ ap (λ j. g (get_or xs j d)) is
    | inr apart ↦ ap g (get_or-set_other xs at k new d (λ is. apart (sym is)))
  ]

-- the place is none, or one of the slots
abbrev pub IsWithin : Option ℕ → List EdgeSlot → Type 0
IsWithin place slots = (k : ℕ) → place ≡ Some k → k < length slots

next-with_next : (side : Side) (n : Option ℕ) (x : EdgeSlot) → (hooks side (with_next side n x)).next ≡ n
next-with_next Out n x = refl
next-with_next In n x = refl

prev-with_next : (side : Side) (n : Option ℕ) (x : EdgeSlot) → (hooks side (with_next side n x)).prev ≡ (hooks side x).prev
prev-with_next Out n x = refl
prev-with_next In n x = refl

other-with_next : (side : Side) (n : Option ℕ) (x : EdgeSlot) → hooks (other side) (with_next side n x) ≡ hooks (other side) x
other-with_next Out n x = refl
other-with_next In n x = refl

prev-with_prev : (side : Side) (n : Option ℕ) (x : EdgeSlot) → (hooks side (with_prev side n x)).prev ≡ n
prev-with_prev Out n x = refl
prev-with_prev In n x = refl

pub next-with_prev : (side : Side) (n : Option ℕ) (x : EdgeSlot) → (hooks side (with_prev side n x)).next ≡ (hooks side x).next
next-with_prev Out n x = refl
next-with_prev In n x = refl

pub other-with_prev : (side : Side) (n : Option ℕ) (x : EdgeSlot) → hooks (other side) (with_prev side n x) ≡ hooks (other side) x
other-with_prev Out n x = refl
other-with_prev In n x = refl

edge-with_next : (side : Side) (n : Option ℕ) (x : EdgeSlot) → ((with_next side n x).edge ≡ x.edge) × ((with_next side n x).live ≡ x.live)
edge-with_next Out n x = (refl, refl)
edge-with_next In n x = (refl, refl)

pub edge-with_prev : (side : Side) (n : Option ℕ) (x : EdgeSlot) → ((with_prev side n x).edge ≡ x.edge) × ((with_prev side n x).live ≡ x.live)
edge-with_prev Out n x = (refl, refl)
edge-with_prev In n x = (refl, refl)

first-with_first : (side : Side) (n : Option ℕ) (x : Spot) → first_of_side side (with_first side n x) ≡ n
first-with_first Out n x = refl
first-with_first In n x = refl

pub other-with_first : (side : Side) (n : Option ℕ) (x : Spot) → first_of_side (other side) (with_first side n x) ≡ first_of_side (other side) x
other-with_first Out n x = refl
other-with_first In n x = refl

node-with_first : (side : Side) (n : Option ℕ) (x : Spot) → (with_first side n x).node ≡ x.node
node-with_first Out n x = refl
node-with_first In n x = refl

slot_edge-same : (x y : EdgeSlot) → (x.edge ≡ y.edge) × (x.live ≡ y.live) → slot_edge x ≡ slot_edge y
slot_edge-same x y same = λ i. cond (same.1 i) (Some (same.0 i)) None

module _ (side : Side) (n : Option ℕ) (slots : List EdgeSlot) where
  pub length-next_set : (place : Option ℕ) → length (next_set side place n slots) ≡ length slots
  length-next_set None = refl
  length-next_set (Some e) = length-set slots e (with_next side n (slot_at slots e))

  pub length-prev_set : (place : Option ℕ) → length (prev_set side place n slots) ≡ length slots
  length-prev_set None = refl
  length-prev_set (Some e) = length-set slots e (with_prev side n (slot_at slots e))

  pub edges-next_set : (place : Option ℕ) → map slot_edge (next_set side place n slots) ≡ map slot_edge slots
  edges-next_set None = refl
  edges-next_set (Some e) = map-set_same slot_edge slots e (with_next side n (slot_at slots e)) _ (slot_edge-same (with_next side n (slot_at slots e)) (slot_at slots e) (edge-with_next side n (slot_at slots e)))

  pub edges-prev_set : (place : Option ℕ) → map slot_edge (prev_set side place n slots) ≡ map slot_edge slots
  edges-prev_set None = refl
  edges-prev_set (Some e) = map-set_same slot_edge slots e (with_prev side n (slot_at slots e)) _ (slot_edge-same (with_prev side n (slot_at slots e)) (slot_at slots e) (edge-with_prev side n (slot_at slots e)))

  -- what a change of this kind leaves of a slot
  pub kept-next_set : {A : Type 0} (g : EdgeSlot → A) → ((x : EdgeSlot) → g (with_next side n x) ≡ g x) → (place : Option ℕ) (k : ℕ) → IsWithin place slots
      → g (slot_at (next_set side place n slots) k) ≡ g (slot_at slots k)
  kept-next_set g same None k within = refl
  kept-next_set g same (Some e) k within = read_kept g _ slots e k (with_next side n (slot_at slots e)) (within e refl) (same (slot_at slots e))

  pub kept-prev_set : {A : Type 0} (g : EdgeSlot → A) → ((x : EdgeSlot) → g (with_prev side n x) ≡ g x) → (place : Option ℕ) (k : ℕ) → IsWithin place slots
      → g (slot_at (prev_set side place n slots) k) ≡ g (slot_at slots k)
  kept-prev_set g same None k within = refl
  kept-prev_set g same (Some e) k within = read_kept g _ slots e k (with_prev side n (slot_at slots e)) (within e refl) (same (slot_at slots e))

  pub next-next_set : (place : Option ℕ) (k : ℕ) → IsWithin place slots → next_at side (next_set side place n slots) k ≡ cond (holds_number place k) n (next_at side slots k)
  next-next_set None k within = refl
  next-next_set (Some e) k within =
      read_set (λ x. (hooks side x).next) _ slots e k (with_next side n (slot_at slots e)) (within e refl)
      ∙ ap (λ m. cond (eqb e k) m (next_at side slots k)) (next-with_next side n (slot_at slots e))

  pub prev-prev_set : (place : Option ℕ) (k : ℕ) → IsWithin place slots → prev_at side (prev_set side place n slots) k ≡ cond (holds_number place k) n (prev_at side slots k)
  prev-prev_set None k within = refl
  prev-prev_set (Some e) k within =
      read_set (λ x. (hooks side x).prev) _ slots e k (with_prev side n (slot_at slots e)) (within e refl)
      ∙ ap (λ m. cond (eqb e k) m (prev_at side slots k)) (prev-with_prev side n (slot_at slots e))

-- The links after e is passed over: those beside it, and the first of its node's list.
pub record Passed (next prev first_of_side next' prev' first' : ℕ → Option ℕ) (n e : ℕ) : Type 0 where
  pub bridges : Bridges next prev next' prev' e
  pub first_hit : prev e ≡ None → first' n ≡ next e
  pub first_kept : prev e ≢ None → first' n ≡ first_of_side n
  pub first_other : (m : ℕ) → m ≢ n → first' m ≡ first_of_side m

pub first-first_set : (side : Side) (n m : ℕ) (place : Option ℕ) (spots : List Spot) → n < length spots → first_at side (first_set side n place spots) m ≡ cond (eqb n m) place (first_at side spots m)
first-first_set side n m place spots within =
    read_set (first_of_side side) _ spots n m (with_first side place (spot_at spots n)) within
    ∙ ap (λ p. cond (eqb n m) p (first_at side spots m)) (first-with_first side place (spot_at spots n))

module _ (side : Side) (spots : List Spot) (slots : List EdgeSlot) (e : ℕ) (has : HasLinks side spots slots e) where
  before : Option ℕ
  before = prev_at side slots e

  after : Option ℕ
  after = next_at side slots e

  between : List EdgeSlot
  between = next_set side (prev_at side slots e) (next_at side slots e) slots

  in_between : IsWithin (next_at side slots e) (next_set side (prev_at side slots e) (next_at side slots e) slots)
  in_between k is = omega (arith, has.next k is, length-next_set side (next_at side slots e) slots (prev_at side slots e))

  unlinked_next : (k : ℕ) → next_at side (unlinked_slots side e slots) k ≡ cond (holds_number (prev_at side slots e) k) (next_at side slots e) (next_at side slots k)
  unlinked_next k =
      kept-prev_set side (prev_at side slots e) (next_set side (prev_at side slots e) (next_at side slots e) slots) (λ x. (hooks side x).next) (next-with_prev side (prev_at side slots e)) (next_at side slots e) k in_between
      ∙ next-next_set side (next_at side slots e) slots (prev_at side slots e) k has.prev

  unlinked_prev : (k : ℕ) → prev_at side (unlinked_slots side e slots) k ≡ cond (holds_number (next_at side slots e) k) (prev_at side slots e) (prev_at side slots k)
  unlinked_prev k =
      prev-prev_set side (prev_at side slots e) (next_set side (prev_at side slots e) (next_at side slots e) slots) (next_at side slots e) k in_between
      ∙ ap (λ p. cond (holds_number (next_at side slots e) k) (prev_at side slots e) p)
      (kept-next_set side (next_at side slots e) slots (λ x. (hooks side x).prev) (prev-with_next side (next_at side slots e)) (prev_at side slots e) k has.prev)

  unlinked_first : (m : ℕ) → first_at side (unlinked_spots side e slots spots) m
      ≡ cond (is_none (prev_at side slots e)) (cond (eqb (end_at side slots e) m) (next_at side slots e) (first_at side spots m)) (first_at side spots m)
  unlinked_first m = elim (is_none (prev_at side slots e)) as (λ b. first_at side (cond b (first_set side (end_at side slots e) (next_at side slots e) spots) spots) m ≡ cond b (cond (eqb (end_at side slots e) m) (next_at side slots e) (first_at side spots m)) (first_at side spots m)) [
    | true ↦ first-first_set side (end_at side slots e) m (next_at side slots e) spots has.spot
    | false ↦ refl
  ]

  not_none : (place : Option ℕ) → place ≢ None → is_none place ≡ false
  not_none None apart = absurd (apart refl)
  not_none (Some k) apart = refl

  pub unlinked_passed : Passed (next_at side slots) (prev_at side slots) (first_at side spots)
      (next_at side (unlinked_slots side e slots)) (prev_at side (unlinked_slots side e slots)) (first_at side (unlinked_spots side e slots spots)) (end_at side slots e) e
  unlinked_passed = record {
    bridges = record {
      next_hit = λ k is. unlinked_next k ∙ ap (λ b. cond b (next_at side slots e) (next_at side slots k)) (number_is (prev_at side slots e) k is);
      next_miss = λ k apart. unlinked_next k ∙ ap (λ b. cond b (next_at side slots e) (next_at side slots k)) (number_not (prev_at side slots e) k apart);
      prev_hit = λ k is. unlinked_prev k ∙ ap (λ b. cond b (prev_at side slots e) (prev_at side slots k)) (number_is (next_at side slots e) k is);
      prev_miss = λ k apart. unlinked_prev k ∙ ap (λ b. cond b (prev_at side slots e) (prev_at side slots k)) (number_not (next_at side slots e) k apart);
    };
    first_hit = λ is. unlinked_first (end_at side slots e)
        ∙ ap (λ p. cond (is_none p) (cond (eqb (end_at side slots e) (end_at side slots e)) (next_at side slots e) (first_at side spots (end_at side slots e))) (first_at side spots (end_at side slots e))) is
        ∙ ap (λ b. cond b (next_at side slots e) (first_at side spots (end_at side slots e))) (eq-eqb (end_at side slots e) (end_at side slots e) refl);
    first_kept = λ apart. unlinked_first (end_at side slots e)
        ∙ ap (λ b. cond b (cond (eqb (end_at side slots e) (end_at side slots e)) (next_at side slots e) (first_at side spots (end_at side slots e))) (first_at side spots (end_at side slots e))) (not_none (prev_at side slots e) apart);
    first_other = λ m apart. unlinked_first m
        ∙ ap (λ b. cond (is_none (prev_at side slots e)) (cond b (next_at side slots e) (first_at side spots m)) (first_at side spots m)) (eqb-not (end_at side slots e) m (λ is. apart (sym is)))
        ∙ elim (is_none (prev_at side slots e)) as (λ b. cond b (first_at side spots m) (first_at side spots m) ≡ first_at side spots m) [ true ↦ refl | false ↦ refl ];
  }

  -- nothing else is changed
  pub unlinked_hooks : (k : ℕ) → hooks_at (other side) (unlinked_slots side e slots) k ≡ hooks_at (other side) slots k
  unlinked_hooks k =
      kept-prev_set side (prev_at side slots e) (next_set side (prev_at side slots e) (next_at side slots e) slots) (hooks (other side)) (other-with_prev side (prev_at side slots e)) (next_at side slots e) k in_between
      ∙ kept-next_set side (next_at side slots e) slots (hooks (other side)) (other-with_next side (next_at side slots e)) (prev_at side slots e) k has.prev

  pub unlinked_edge : (k : ℕ) → (slot_at (unlinked_slots side e slots) k).edge ≡ (slot_at slots k).edge
  unlinked_edge k =
      kept-prev_set side (prev_at side slots e) (next_set side (prev_at side slots e) (next_at side slots e) slots) (λ x. x.edge) (λ x. (edge-with_prev side (prev_at side slots e) x).0) (next_at side slots e) k in_between
      ∙ kept-next_set side (next_at side slots e) slots (λ x. x.edge) (λ x. (edge-with_next side (next_at side slots e) x).0) (prev_at side slots e) k has.prev

  pub unlinked_firsts : (m : ℕ) → first_at (other side) (unlinked_spots side e slots spots) m ≡ first_at (other side) spots m
  unlinked_firsts m = elim (is_none (prev_at side slots e)) as (λ b. first_at (other side) (cond b (first_set side (end_at side slots e) (next_at side slots e) spots) spots) m ≡ first_at (other side) spots m) [
    | true ↦ read_kept (first_of_side (other side)) _ spots (end_at side slots e) m (with_first side (next_at side slots e) (spot_at spots (end_at side slots e))) has.spot (other-with_first side (next_at side slots e) (spot_at spots (end_at side slots e)))
    | false ↦ refl
  ]

-- what holds of any slots
pub unlinked_edges : (side : Side) (slots : List EdgeSlot) (e : ℕ) → map slot_edge (unlinked_slots side e slots) ≡ map slot_edge slots
unlinked_edges side slots e =
    edges-prev_set side (prev_at side slots e) (next_set side (prev_at side slots e) (next_at side slots e) slots) (next_at side slots e)
    ∙ edges-next_set side (next_at side slots e) slots (prev_at side slots e)

pub length-unlinked : (side : Side) (slots : List EdgeSlot) (e : ℕ) → length (unlinked_slots side e slots) ≡ length slots
length-unlinked side slots e =
    length-prev_set side (prev_at side slots e) (next_set side (prev_at side slots e) (next_at side slots e) slots) (next_at side slots e)
    ∙ length-next_set side (next_at side slots e) slots (prev_at side slots e)

pub nodes-first_set : (side : Side) (n : ℕ) (place : Option ℕ) (spots : List Spot) → map (λ (x : Spot). x.node) (first_set side n place spots) ≡ map (λ (x : Spot). x.node) spots
nodes-first_set side n place spots = map-set_same (λ (x : Spot). x.node) spots n (with_first side place (spot_at spots n)) _ (node-with_first side place (spot_at spots n))

pub unlinked_nodes : (side : Side) (slots : List EdgeSlot) (spots : List Spot) (e : ℕ) → map (λ (x : Spot). x.node) (unlinked_spots side e slots spots) ≡ map (λ (x : Spot). x.node) spots
unlinked_nodes side slots spots e = elim (is_none (prev_at side slots e)) as (λ b. map (λ (x : Spot). x.node) (cond b (first_set side (end_at side slots e) (next_at side slots e) spots) spots) ≡ map (λ (x : Spot). x.node) spots) [
  | true ↦ nodes-first_set side (end_at side slots e) (next_at side slots e) spots
  | false ↦ refl
]

pub length_unlinked_spots : (side : Side) (slots : List EdgeSlot) (spots : List Spot) (e : ℕ) → length (unlinked_spots side e slots spots) ≡ length spots
length_unlinked_spots side slots spots e = elim (is_none (prev_at side slots e)) as (λ b. length (cond b (first_set side (end_at side slots e) (next_at side slots e) spots) spots) ≡ length spots) [
  | true ↦ length-set spots (end_at side slots e) (with_first side (next_at side slots e) (spot_at spots (end_at side slots e)))
  | false ↦ refl
]
