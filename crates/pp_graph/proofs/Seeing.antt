-- What the graph is that the slots hold.
use Rattle.std.proofs.Common.{◌≡◌, ◌≢◌, ℕ, zero, suc, eqb, ◌+◌, ◌<◌, ◌≤◌, Bool, true, false, cond, List, [], ◌∷◌, length, map, get_or, Option, Some, None, inl, inr, ◌⊎◌, refl, sym, ap, subst, ◌∙◌, arith}
use Rattle.std.specs.Option.{option_map_or, IsSome}
use Rattle.std.specs.List.{slice_get}
use Rattle.std.proofs.lemmas.Bool.{cases_eq, eq-eqb, eqb-true, false≢true, cases_lt}
use Rattle.std.proofs.lemmas.Option.{none-some, same_Some, slice_get-get_or}
use Rattle.std.proofs.lemmas.List.{get_or-map, length-map, get_or_past}
use Rattle.pp_count.specs.declared.edge.Edge.{Edge}
use Rattle.pp_graph.specs.declared.slot.EdgeSlot.{EdgeSlot}
use Rattle.pp_graph.specs.declared.slot.Spot.{Spot}
use Rattle.pp_graph.specs.declared.slot.Side.{Side}
use Rattle.pp_graph.specs.declared.slot.Side.TheVariants.{Out, In}
use Rattle.pp_graph.specs.Lists.{once_if, occurrences, leave_out}
use Rattle.pp_graph.specs.Links.{EdgeLinks, AreEdgesLinked, IsUncut, numbered_edge}
use Rattle.pp_graph.specs.Chains.{walk, holds_number, IsChain}
use Rattle.pp_graph.specs.Slots.{hooks, hooks_at, next_at, prev_at, first_of_side, first_at, side_end, end_at, slot_at, spot_at, slot_edge, no_slot, no_spot, list_of, list_at, held_links, has_end, AreSoundSlots, HasLinks}
use Rattle.pp_graph.proofs.Chaining.{IsApart, next_in, prev_in, length-walk}

pub get_or-map_default : {X Y : Type 0} (f : X → Y) (xs : List X) (i : ℕ) (d : X) → get_or (map f xs) i (f d) ≡ f (get_or xs i d)
get_or-map_default f [] i d = refl
get_or-map_default f (x ∷ xs) zero d = refl
get_or-map_default f (x ∷ xs) (suc i) d = get_or-map_default f xs i d

pub once_true : (b : Bool) → 0 < once_if b → b ≡ true
once_true true some = refl
once_true false some = absurd (omega (arith, some))

pub once_most : (b : Bool) → once_if b ≤ 1
once_most true = omega arith
once_most false = omega arith

pub once_is : (b : Bool) → b ≡ true → 0 < once_if b
once_is true is = omega arith
once_is false is = absurd (false≢true is)

-- on which end an edge stands, of an edge that may not be there
abbrev pub at_end : Side → Option Edge → ℕ → Bool
at_end side edge n = option_map_or (λ x. eqb (side_end side x) n) edge false

pub has_end_is : (side : Side) (g : EdgeLinks) (n e : ℕ) → has_end side g n e ≡ at_end side (numbered_edge g e) n
has_end_is Out g n e = refl
has_end_is In g n e = refl

pub one_end : (side : Side) (edge : Option Edge) (n m : ℕ) → at_end side edge n ≡ true → at_end side edge m ≡ true → n ≡ m
one_end side None n m a b = absurd (false≢true a)
one_end side (Some x) n m a b = sym (eqb-true (side_end side x) n a) ∙ eqb-true (side_end side x) m b

module _ (spots : List Spot) (slots : List EdgeSlot) where
  pub list_seen : (side : Side) (n : ℕ) → n < length spots → list_at side (held_links spots slots) n ≡ walk (next_at side slots) (length slots) (first_at side spots n)
  list_seen Out n within = get_or-map (list_of Out slots) spots n no_spot [] within
  list_seen In n within = get_or-map (list_of In slots) spots n no_spot [] within

  pub edge_seen : (e : ℕ) → numbered_edge (held_links spots slots) e ≡ slot_edge (slot_at slots e)
  edge_seen e = get_or-map_default slot_edge slots e no_slot

  some_edge : (x : EdgeSlot) → IsSome (slot_edge x) → slot_edge x ≡ Some x.edge
  some_edge x some = elim x.live as (λ b. IsSome (cond b (Some x.edge) None) → cond b (Some x.edge) None ≡ Some x.edge) [ true ↦ λ _. refl | false ↦ λ h. absurd (grind (arith, h)) ] some

  pub live_edge : (e : ℕ) → IsUncut (held_links spots slots) e → slot_edge (slot_at slots e) ≡ Some (slot_at slots e).edge
  live_edge e live = some_edge (slot_at slots e) (subst IsSome (edge_seen e) live)

  -- the edge of a number stands among the slots
  pub edge_within : (e : ℕ) (edge : Edge) → numbered_edge (held_links spots slots) e ≡ Some edge → e < length slots
  edge_within e edge is = elim (cases_lt e (length slots)) [
    | inl within ↦ within
    | inr past ↦ absurd (none-some edge (sym (ap slot_edge (get_or_past slots e no_slot past)) ∙ sym (edge_seen e) ∙ is))
  ]

  pub live_within : (e : ℕ) → IsUncut (held_links spots slots) e → e < length slots
  live_within e live = edge_within e (slot_at slots e).edge (edge_seen e ∙ live_edge e live)

  some_end : (side : Side) (edge : Option Edge) (n : ℕ) → at_end side edge n ≡ true → (x : Edge) × (edge ≡ Some x)
  some_end side None n is = absurd (false≢true is)
  some_end side (Some x) n is = (x, refl)

  pub end_within : (side : Side) (n e : ℕ) → has_end side (held_links spots slots) n e ≡ true → e < length slots
  end_within side n e is =
      let found = some_end side (numbered_edge (held_links spots slots) e) n (sym (has_end_is side (held_links spots slots) n e) ∙ is) in
      edge_within e found.0 found.1

  pub same_end : (side : Side) (n m e : ℕ) → has_end side (held_links spots slots) n e ≡ true → has_end side (held_links spots slots) m e ≡ true → n ≡ m
  same_end side n m e a b = one_end side (numbered_edge (held_links spots slots) e) n m (sym (has_end_is side (held_links spots slots) n e) ∙ a) (sym (has_end_is side (held_links spots slots) m e) ∙ b)

  module _ (s : AreSoundSlots spots slots) where
    pub counts : (side : Side) (n e : ℕ) → n < length spots → occurrences e (list_at side (held_links spots slots) n) ≡ once_if (has_end side (held_links spots slots) n e)
    counts Out n e within = s.linked.out n e (omega (arith, length-map spots (λ (x : Spot). x.node)))
    counts In n e within = s.linked.into n e (omega (arith, length-map spots (λ (x : Spot). x.node)))

    pub apart_at : (side : Side) (n : ℕ) → n < length spots → IsApart (list_at side (held_links spots slots) n)
    apart_at side n within k = omega (arith, counts side n k within, once_most (has_end side (held_links spots slots) n k))

    pub listed : (side : Side) (n e : ℕ) → n < length spots → has_end side (held_links spots slots) n e ≡ true → 0 < occurrences e (list_at side (held_links spots slots) n)
    listed side n e within is = omega (arith, counts side n e within, once_is (has_end side (held_links spots slots) n e) is)

    pub listed_end : (side : Side) (n e : ℕ) → n < length spots → 0 < occurrences e (list_at side (held_links spots slots) n) → has_end side (held_links spots slots) n e ≡ true
    listed_end side n e within some = once_true (has_end side (held_links spots slots) n e) (omega (arith, some, counts side n e within))

    pub listed_within : (side : Side) (n e : ℕ) → n < length spots → 0 < occurrences e (list_at side (held_links spots slots) n) → e < length slots
    listed_within side n e within some = end_within side n e (listed_end side n e within some)

    pub length-list : (side : Side) (n : ℕ) → n < length spots → length (list_at side (held_links spots slots) n) ≤ length slots
    length-list side n within = omega (arith, ap length (list_seen side n within), length-walk (next_at side slots) (prev_at side slots) (length slots) (first_at side spots n))

    module _ (e : ℕ) (live : IsUncut (held_links spots slots) e) where
      at_its_end : (side : Side) → at_end side (numbered_edge (held_links spots slots) e) (end_at side slots e) ≡ true
      at_its_end side = ap (λ o. at_end side o (end_at side slots e)) (edge_seen e ∙ live_edge e live) ∙ eq-eqb (end_at side slots e) (end_at side slots e) refl

      pub its_end : (side : Side) → has_end side (held_links spots slots) (end_at side slots e) e ≡ true
      its_end side = has_end_is side (held_links spots slots) (end_at side slots e) e ∙ at_its_end side

      stored : slice_get (map slot_edge slots) e ≡ Some (Some (slot_at slots e).edge)
      stored = slice_get-get_or (map slot_edge slots) e None (omega (arith, length-map slots slot_edge, live_within e live)) ∙ ap Some (edge_seen e ∙ live_edge e live)

      pub end_spot : (side : Side) → end_at side slots e < length spots
      end_spot Out = omega (arith, (s.linked.ends e (slot_at slots e).edge stored).0, length-map spots (λ (x : Spot). x.node))
      end_spot In = omega (arith, (s.linked.ends e (slot_at slots e).edge stored).1, length-map spots (λ (x : Spot). x.node))

      pub its_list : (side : Side) → 0 < occurrences e (list_at side (held_links spots slots) (end_at side slots e))
      its_list side = listed side (end_at side slots e) e (end_spot side) (its_end side)

      pub next_listed : (side : Side) (k : ℕ) → next_at side slots e ≡ Some k → 0 < occurrences k (list_at side (held_links spots slots) (end_at side slots e))
      next_listed side k is = next_in (next_at side slots) (prev_at side slots) None (first_at side spots (end_at side slots e)) (list_at side (held_links spots slots) (end_at side slots e)) e k
          (s.chains side (end_at side slots e) (end_spot side)) (its_list side) is

      pub prev_listed : (side : Side) (k : ℕ) → prev_at side slots e ≡ Some k → 0 < occurrences k (list_at side (held_links spots slots) (end_at side slots e))
      prev_listed side k is = elim (prev_in (next_at side slots) (prev_at side slots) None (first_at side spots (end_at side slots e)) (list_at side (held_links spots slots) (end_at side slots e)) e k
          (s.chains side (end_at side slots e) (end_spot side)) (its_list side) is) [
            | inl none ↦ absurd (none-some k none)
            | inr some ↦ some
          ]

      pub has_place : (side : Side) → HasLinks side spots slots e
      has_place side = record {
        slot = live_within e live;
        spot = end_spot side;
        next = λ k is. listed_within side (end_at side slots e) k (end_spot side) (next_listed side k is);
        prev = λ k is. listed_within side (end_at side slots e) k (end_spot side) (prev_listed side k is);
      }
