-- How a graph lays out its slots. No public clause cites this file.
use Rattle.std.specs.Prelude.{◌≡◌, ℕ, ◌<◌, pos, Bool, true, false, List, [], ◌∷◌, ◌++◌, length, map, slice_index_or, slice_set, Option, Some, None, is_none, if◌then◌else◌}
use Rattle.std.specs.List.{range_with_len}
use Rattle.pp_count.specs.declared.edge.Edge.{Edge}
use Rattle.pp_count.specs.declared.sums.Sums.{Sums}
use Rattle.pp_graph.specs.declared.node.Node.{Node}
use Rattle.pp_graph.specs.declared.slot.Hooks.{Hooks}
use Rattle.pp_graph.specs.declared.slot.EdgeSlot.{EdgeSlot}
use Rattle.pp_graph.specs.declared.slot.Spot.{Spot}
use Rattle.pp_graph.specs.declared.slot.Side.{Side}
use Rattle.pp_graph.specs.declared.slot.Side.TheVariants.{Out, In}
use Rattle.pp_graph.specs.Chains.{walk, IsChain}
use Rattle.pp_graph.specs.Links.{EdgeLinks, AreEdgesLinked, out_at, in_at, leaves, enters}

-- an edge that stands nowhere
abbrev pub no_hooks : Hooks
no_hooks = record { next = None; prev = None }

-- a slot that is not there
abbrev pub no_slot : EdgeSlot
no_slot = record {
  edge = record { from = 0; to = 0; value = pos 0 };
  out = no_hooks;
  into = no_hooks;
  live = false;
}

-- a node that is not there
abbrev pub no_spot : Spot
no_spot = record {
  node = record { name = 0; flat = pos 0; cum = pos 0 };
  first_out = None;
  first_in = None;
}

-- the edges beside the slot's edge in the list of this side
abbrev pub hooks : Side → EdgeSlot → Hooks
hooks Out slot = slot.out
hooks In slot = slot.into

-- the first edge of the node's list of this side
abbrev pub first_of_side : Side → Spot → Option ℕ
first_of_side Out spot = spot.first_out
first_of_side In spot = spot.first_in

-- the end at which the edge stands in a list of this side
abbrev pub side_end : Side → Edge → ℕ
side_end Out edge = edge.from
side_end In edge = edge.to

-- the edges beside the one of this number
abbrev pub hooks_at : Side → List EdgeSlot → ℕ → Hooks
hooks_at side slots e = hooks side (slice_index_or slots e no_slot)

-- the edge after it
abbrev pub next_at : Side → List EdgeSlot → ℕ → Option ℕ
next_at side slots e = (hooks_at side slots e).next

-- the edge before it
abbrev pub prev_at : Side → List EdgeSlot → ℕ → Option ℕ
prev_at side slots e = (hooks_at side slots e).prev

-- the first edge of the list of the node with this number
abbrev pub first_at : Side → List Spot → ℕ → Option ℕ
first_at side spots n = first_of_side side (slice_index_or spots n no_spot)

-- the edge of the slot, none where it was cut
abbrev pub slot_edge : EdgeSlot → Option Edge
slot_edge slot = if slot.live then Some slot.edge else None

-- the list of a node
abbrev pub list_of : Side → List EdgeSlot → Spot → List ℕ
list_of side slots spot = walk (next_at side slots) (length slots) (first_of_side side spot)

-- the graph that the slots hold
abbrev pub held_links : List Spot → List EdgeSlot → EdgeLinks
held_links spots slots = record {
  nodes = map (λ spot. spot.node) spots;
  edges = map slot_edge slots;
  outs = map (list_of Out slots) spots;
  ins = map (list_of In slots) spots;
}

-- the list of this side of a node
abbrev pub list_at : Side → EdgeLinks → ℕ → List ℕ
list_at Out g n = out_at g n
list_at In g n = in_at g n

-- the edge of the number stands at the node on this side
abbrev pub has_end : Side → EdgeLinks → ℕ → ℕ → Bool
has_end Out g n e = leaves g n e
has_end In g n e = enters g n e

-- Each live edge stands once in both its lists, and the links of each list agree forward and back.
pub record AreSoundSlots (spots : List Spot) (slots : List EdgeSlot) : Type 0 where
  pub linked : AreEdgesLinked (held_links spots slots)
  pub chains : (side : Side) (n : ℕ) → n < length spots
      → IsChain (next_at side slots) (prev_at side slots) None (first_at side spots n)
      (list_at side (held_links spots slots) n)

-- the slot at the place
abbrev pub slot_at : List EdgeSlot → ℕ → EdgeSlot
slot_at slots e = slice_index_or slots e no_slot

-- the node with the number
abbrev pub spot_at : List Spot → ℕ → Spot
spot_at spots n = slice_index_or spots n no_spot

-- the slot with another edge after it
abbrev pub with_next : Side → Option ℕ → EdgeSlot → EdgeSlot
with_next Out next slot = record slot { out = record slot.out { next = next } }
with_next In next slot = record slot { into = record slot.into { next = next } }

-- the slot with another edge before it
abbrev pub with_prev : Side → Option ℕ → EdgeSlot → EdgeSlot
with_prev Out prev slot = record slot { out = record slot.out { prev = prev } }
with_prev In prev slot = record slot { into = record slot.into { prev = prev } }

-- the node with another first edge
abbrev pub with_first : Side → Option ℕ → Spot → Spot
with_first Out place spot = record spot { first_out = place }
with_first In place spot = record spot { first_in = place }

-- the slots with another edge after the one at the place, where there is one
abbrev pub next_set : Side → Option ℕ → Option ℕ → List EdgeSlot → List EdgeSlot
next_set side None next slots = slots
next_set side (Some e) next slots = slice_set slots e (with_next side next (slot_at slots e))

-- the slots with another edge before it
abbrev pub prev_set : Side → Option ℕ → Option ℕ → List EdgeSlot → List EdgeSlot
prev_set side None prev slots = slots
prev_set side (Some e) prev slots = slice_set slots e (with_prev side prev (slot_at slots e))

-- the nodes with another first edge of the node's list
abbrev pub first_set : Side → ℕ → Option ℕ → List Spot → List Spot
first_set side n place spots = slice_set spots n (with_first side place (spot_at spots n))

-- the number of the node that has the edge in its list of this side
abbrev pub end_at : Side → List EdgeSlot → ℕ → ℕ
end_at side slots e = side_end side (slot_at slots e).edge

-- the edge and those beside it are there, and the node that has it
pub record HasLinks (side : Side) (spots : List Spot) (slots : List EdgeSlot) (e : ℕ) : Type 0 where
  pub slot : e < length slots
  pub spot : end_at side slots e < length spots
  pub next : (k : ℕ) → next_at side slots e ≡ Some k → k < length slots
  pub prev : (k : ℕ) → prev_at side slots e ≡ Some k → k < length slots

-- the slots after the edge is taken out of its list
abbrev pub unlinked_slots : Side → ℕ → List EdgeSlot → List EdgeSlot
unlinked_slots side e slots =
    prev_set side (next_at side slots e) (prev_at side slots e)
    (next_set side (prev_at side slots e) (next_at side slots e) slots)

-- the nodes after that
abbrev pub unlinked_spots : Side → ℕ → List EdgeSlot → List Spot → List Spot
unlinked_spots side e slots spots =
    if is_none (prev_at side slots e)
    then first_set side (end_at side slots e) (next_at side slots e) spots
    else spots

-- the slots after the edge is made the first of its list, where it has the first so far after it
abbrev pub linked_slots : Side → ℕ → List EdgeSlot → List EdgeSlot
linked_slots side e slots = prev_set side (next_at side slots e) (Some e) slots

-- the nodes after that
abbrev pub linked_spots : Side → ℕ → List EdgeSlot → List Spot → List Spot
linked_spots side e slots spots = first_set side (end_at side slots e) (Some e) spots

-- the slot of an edge before it is linked, which has the first edges so far after it
abbrev pub new_slot : List Spot → Edge → EdgeSlot
new_slot spots edge = record {
  edge = edge;
  out = record { next = first_at Out spots edge.from; prev = None };
  into = record { next = first_at In spots edge.to; prev = None };
  live = true;
}

-- The edge has the last slot, and is not linked yet.
pub record IsNewest (spots : List Spot) (slots : List EdgeSlot) (e : ℕ) : Type 0 where
  pub before : List EdgeSlot
  pub edge : Edge
  pub sound : AreSoundSlots spots before
  pub slots_are : slots ≡ before ++ new_slot spots edge ∷ []
  pub last : e ≡ length before
  pub from : edge.from < length spots
  pub to : edge.to < length spots

-- the node of a name, with no edges
abbrev pub bare_spot : Sums → ℕ → Spot
bare_spot sums n = record {
  node = record {
    name = n;
    flat = slice_index_or sums.flat n (pos 0);
    cum = slice_index_or sums.cum n (pos 0);
  };
  first_out = None;
  first_in = None;
}

-- the nodes of the first n names
abbrev pub bare_spots : Sums → ℕ → List Spot
bare_spots sums n = map (bare_spot sums) (range_with_len 0 n)
