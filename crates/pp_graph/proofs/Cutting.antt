-- A graph stays sound when an edge is cut, and is then the graph without it.
use Rattle.std.proofs.Common.{◌≡◌, ◌≢◌, ℕ, zero, suc, eqb, ◌+◌, ◌<◌, ◌≤◌, Bool, true, false, cond, List, [], ◌∷◌, length, map, get_or, set, Option, Some, None, inl, inr, ◌⊎◌, refl, sym, ap, subst, ◌∙◌, arith}
use Rattle.std.specs.List.{slice_get}
use Rattle.std.proofs.Math.Seq.{map-set_same}
use Rattle.std.proofs.lemmas.Bool.{cases_eq, eq-eqb, eqb-true, false≢true}
use Rattle.std.proofs.lemmas.Option.{none-some, same_Some, slice_get-get_or, slice_get_within, slice_get_past, get_or_from_slice_get}
use Rattle.std.proofs.lemmas.List.{get_or-map, length-map, length-set, map-set, same_lists, get_or-set_same, get_or-set_other}
use Rattle.pp_count.specs.declared.edge.Edge.{Edge}
use Rattle.pp_graph.specs.declared.node.Node.{Node}
use Rattle.pp_graph.specs.declared.slot.Hooks.{Hooks}
use Rattle.pp_graph.specs.declared.slot.EdgeSlot.{EdgeSlot}
use Rattle.pp_graph.specs.declared.slot.Spot.{Spot}
use Rattle.pp_graph.specs.declared.slot.Side.{Side}
use Rattle.pp_graph.specs.declared.slot.Side.TheVariants.{Out, In}
use Rattle.pp_graph.specs.Lists.{once_if, occurrences, leave_out}
use Rattle.pp_graph.specs.Links.{EdgeLinks, AreEdgesLinked, IsUncut, numbered_edge, out_at, in_at, leaves, enters, without}
use Rattle.pp_graph.specs.Chains.{walk, holds_number, IsChain}
use Rattle.pp_graph.specs.Slots.{hooks, hooks_at, next_at, prev_at, first_of_side, first_at, side_end, end_at, slot_at, spot_at, slot_edge, no_slot, no_spot, list_of, list_at, held_links, has_end, AreSoundSlots, HasLinks, unlinked_slots, unlinked_spots}
use Rattle.pp_graph.proofs.Chaining.{IsApart, Bridges, eqb-not, prev_of_first, first_by_prev, cut_chain, same_chain, walk_chain, leave_out_absent, length-leave_out, times-leave_out}
use Rattle.pp_graph.proofs.Setting.{Passed, read_set, read_kept, unlinked_passed, unlinked_hooks, unlinked_edge, unlinked_firsts, unlinked_edges, unlinked_nodes, length-unlinked, length_unlinked_spots}
use Rattle.pp_graph.proofs.Seeing.{at_end, has_end_is, get_or-map_default, once_true, once_most, list_seen, edge_seen, live_within, counts, apart_at, listed_end, same_end, length-list, its_end, end_spot, its_list, next_listed, prev_listed, has_place}

-- the slot after its edge is cut
abbrev pub cut_slot : EdgeSlot → EdgeSlot
cut_slot slot = record slot { live = false }

-- a graph without one of its edges is linked where it was
module _ (g : EdgeLinks) (e : ℕ) where
  edge-without : (k : ℕ) → e < length g.edges → numbered_edge (without e g) k ≡ cond (eqb e k) None (numbered_edge g k)
  edge-without k within = elim (cases_eq e k) [
    | inl is ↦ ap (λ j. get_or (set g.edges e None) j None) (sym is) ∙ get_or-set_same g.edges e None None within ∙ ap (λ b. cond b None (numbered_edge g k)) (sym (eq-eqb e k is))
    | inr apart ↦ get_or-set_other g.edges e k None None (λ is. apart (sym is)) ∙ ap (λ b. cond b None (numbered_edge g k)) (sym (eqb-not e k apart))
  ]

  end-without : (side : Side) (n k : ℕ) → e < length g.edges → once_if (has_end side (without e g) n k) ≡ cond (eqb k e) 0 (once_if (has_end side g n k))
  end-without side n k within =
      ap once_if (has_end_is side (without e g) n k ∙ ap (λ o. at_end side o n) (edge-without k within))
      ∙ elim (cases_eq e k) [
        | inl is ↦ ap (λ b. once_if (at_end side (cond b None (numbered_edge g k)) n)) (eq-eqb e k is) ∙ ap (λ b. cond b 0 (once_if (has_end side g n k))) (sym (eq-eqb k e (sym is)))
        | inr apart ↦ ap (λ b. once_if (at_end side (cond b None (numbered_edge g k)) n)) (eqb-not e k apart) ∙ ap once_if (sym (has_end_is side g n k)) ∙ ap (λ b. cond b 0 (once_if (has_end side g n k))) (sym (eqb-not k e (λ is. apart (sym is))))
      ]

  list-without : (side : Side) (n : ℕ) → list_at side (without e g) n ≡ leave_out e (list_at side g n)
  list-without Out n = get_or-map_default (leave_out e) g.outs n []
  list-without In n = get_or-map_default (leave_out e) g.ins n []

  times-without : (side : Side) (n k : ℕ) → e < length g.edges → occurrences k (list_at side g n) ≡ once_if (has_end side g n k)
      → occurrences k (list_at side (without e g) n) ≡ once_if (has_end side (without e g) n k)
  times-without side n k within is =
      ap (occurrences k) (list-without side n) ∙ times-leave_out e k (list_at side g n) ∙ ap (λ t. cond (eqb k e) 0 t) is ∙ sym (end-without side n k within)

  pub linked-without : e < length g.edges → AreEdgesLinked g → AreEdgesLinked (without e g)
  linked-without within l = record {
    outs = length-map g.outs (leave_out e) ∙ l.outs;
    ins = length-map g.ins (leave_out e) ∙ l.ins;
    out = λ n k in_nodes. times-without Out n k within (l.out n k in_nodes);
    into = λ n k in_nodes. times-without In n k within (l.into n k in_nodes);
    ends = λ k edge is. l.ends k edge (was k edge is);
    names = l.names;
  } where
    was : (k : ℕ) (edge : Edge) → slice_get (set g.edges e None) k ≡ Some (Some edge) → slice_get g.edges k ≡ Some (Some edge)
    was k edge is =
        let inside : k < length g.edges = omega (arith, slice_get_within (set g.edges e None) k (Some edge) is, length-set g.edges e None) in
        let read : get_or (set g.edges e None) k None ≡ Some edge = get_or_from_slice_get (set g.edges e None) k (Some edge) None is in
        slice_get-get_or g.edges k None inside ∙ ap Some (elim (cases_eq k e) [
          | inl same ↦ absurd (none-some edge (sym (get_or-set_same g.edges e None None within) ∙ ap (λ j. get_or (set g.edges e None) j None) (sym same) ∙ read))
          | inr apart ↦ sym (get_or-set_other g.edges e k None None apart) ∙ read
        ])

module _ (spots : List Spot) (slots : List EdgeSlot) (s : AreSoundSlots spots slots) (e : ℕ) (live : IsUncut (held_links spots slots) e) where
  -- the slots and nodes after each step
  abbrev slots1 : List EdgeSlot
  slots1 = unlinked_slots Out e slots

  abbrev spots1 : List Spot
  spots1 = unlinked_spots Out e slots spots

  abbrev slots2 : List EdgeSlot
  slots2 = unlinked_slots In e slots1

  abbrev pub spots2 : List Spot
  spots2 = unlinked_spots In e slots1 spots1

  abbrev pub slots3 : List EdgeSlot
  slots3 = set slots2 e (cut_slot (slot_at slots2 e))

  pub length-slots3 : length slots3 ≡ length slots
  length-slots3 = length-set slots2 e (cut_slot (slot_at slots2 e)) ∙ length-unlinked In slots1 e ∙ length-unlinked Out slots e

  length-slots2 : length slots2 ≡ length slots
  length-slots2 = length-unlinked In slots1 e ∙ length-unlinked Out slots e

  pub length-spots2 : length spots2 ≡ length spots
  length-spots2 = length_unlinked_spots In slots1 spots1 e ∙ length_unlinked_spots Out slots spots e

  in_hooks1 : (k : ℕ) → hooks_at In slots1 k ≡ hooks_at In slots k
  in_hooks1 k = unlinked_hooks Out spots slots e (has_place spots slots s e live Out) k

  -- the edge still has its place in the other list
  pub in_place : HasLinks In spots1 slots1 e
  in_place =
      let has = has_place spots slots s e live In in
      record {
        slot = omega (arith, has.slot, length-unlinked Out slots e);
        spot = omega (arith, has.spot, length_unlinked_spots Out slots spots e, ap (λ x. x.to) (unlinked_edge Out spots slots e (has_place spots slots s e live Out) e));
        next = λ k is. omega (arith, has.next k (sym (ap (λ h. h.next) (in_hooks1 e)) ∙ is), length-unlinked Out slots e);
        prev = λ k is. omega (arith, has.prev k (sym (ap (λ h. h.prev) (in_hooks1 e)) ∙ is), length-unlinked Out slots e);
      }

  in_slots2 : e < length slots2
  in_slots2 = omega (arith, live_within spots slots e live, length-slots2)

  hooks3 : (side : Side) (k : ℕ) → hooks_at side slots3 k ≡ hooks_at side slots2 k
  hooks3 side k = read_kept (hooks side) no_slot slots2 e k (cut_slot (slot_at slots2 e)) in_slots2 (same side) where
    same : (side : Side) → hooks side (cut_slot (slot_at slots2 e)) ≡ hooks side (slot_at slots2 e)
    same Out = refl
    same In = refl

  out_hooks3 : (k : ℕ) → hooks_at Out slots3 k ≡ hooks_at Out slots1 k
  out_hooks3 k = hooks3 Out k ∙ unlinked_hooks In spots1 slots1 e in_place k

  passed : (side : Side) → Passed (next_at side slots) (prev_at side slots) (first_at side spots) (next_at side slots3) (prev_at side slots3) (first_at side spots2) (end_at side slots e) e
  passed Out =
      subst (λ f. Passed (next_at Out slots) (prev_at Out slots) (first_at Out spots) (next_at Out slots3) (prev_at Out slots3) f (end_at Out slots e) e) (λ i k. sym (unlinked_firsts In spots1 slots1 e in_place k) i)
      (subst (λ f. Passed (next_at Out slots) (prev_at Out slots) (first_at Out spots) (next_at Out slots3) f (first_at Out spots1) (end_at Out slots e) e) (λ i k. ap (λ h. h.prev) (sym (out_hooks3 k)) i)
      (subst (λ f. Passed (next_at Out slots) (prev_at Out slots) (first_at Out spots) f (prev_at Out slots1) (first_at Out spots1) (end_at Out slots e) e) (λ i k. ap (λ h. h.next) (sym (out_hooks3 k)) i)
      (unlinked_passed Out spots slots e (has_place spots slots s e live Out))))
  passed In =
      subst (λ n. Passed (next_at In slots) (prev_at In slots) (first_at In spots) (next_at In slots3) (prev_at In slots3) (first_at In spots2) n e) (ap (λ x. x.to) (unlinked_edge Out spots slots e (has_place spots slots s e live Out) e))
      (subst (λ f. Passed (next_at In slots) (prev_at In slots) f (next_at In slots3) (prev_at In slots3) (first_at In spots2) (end_at In slots1 e) e) (λ i k. unlinked_firsts Out spots slots e (has_place spots slots s e live Out) k i)
      (subst (λ f. Passed (next_at In slots) f (first_at In spots1) (next_at In slots3) (prev_at In slots3) (first_at In spots2) (end_at In slots1 e) e) (λ i k. ap (λ h. h.prev) (in_hooks1 k) i)
      (subst (λ f. Passed f (prev_at In slots1) (first_at In spots1) (next_at In slots3) (prev_at In slots3) (first_at In spots2) (end_at In slots1 e) e) (λ i k. ap (λ h. h.next) (in_hooks1 k) i)
      (subst (λ f. Passed (next_at In slots1) (prev_at In slots1) (first_at In spots1) (next_at In slots3) f (first_at In spots2) (end_at In slots1 e) e) (λ i k. ap (λ h. h.prev) (sym (hooks3 In k)) i)
      (subst (λ f. Passed (next_at In slots1) (prev_at In slots1) (first_at In spots1) f (prev_at In slots2) (first_at In spots2) (end_at In slots1 e) e) (λ i k. ap (λ h. h.next) (sym (hooks3 In k)) i)
      (unlinked_passed In spots1 slots1 e in_place))))))

  -- the list of a node on a side
  abbrev list : Side → ℕ → List ℕ
  list side n = list_at side (held_links spots slots) n

  apart_from : (side : Side) (n k : ℕ) → n < length spots → n ≢ end_at side slots e → 0 < occurrences k (list side n) → 0 < occurrences k (list side (end_at side slots e)) → ⊥
  apart_from side n k within other here there = other (same_end spots slots side n (end_at side slots e) k (listed_end spots slots s side n k within here) (listed_end spots slots s side (end_at side slots e) k (end_spot spots slots s e live side) there))

  chain_at_end : (side : Side) → IsChain (next_at side slots3) (prev_at side slots3) None (first_at side spots2 (end_at side slots e)) (leave_out e (list side (end_at side slots e)))
  chain_at_end side =
      let n : ℕ = end_at side slots e in
      let c : IsChain (next_at side slots) (prev_at side slots) None (first_at side spots n) (list side n) = s.chains side n (end_spot spots slots s e live side) in
      cut_chain (next_at side slots) (prev_at side slots) (next_at side slots3) (prev_at side slots3) e None (first_at side spots n) (first_at side spots2 n) (list side n)
      (passed side).bridges (apart_at spots slots s side n (end_spot spots slots s e live side)) (λ k is. absurd (none-some k is)) (its_list spots slots s e live side)
      (λ is. (passed side).first_hit (prev_of_first (next_at side slots) (prev_at side slots) None (first_at side spots n) (list side n) e c is))
      (λ apart. (passed side).first_kept (λ is. apart (first_by_prev (next_at side slots) (prev_at side slots) None (first_at side spots n) (list side n) e c (its_list spots slots s e live side) (λ k at. absurd (none-some k at)) is)))
      c

  chain_elsewhere : (side : Side) (n : ℕ) → n < length spots → n ≢ end_at side slots e → IsChain (next_at side slots3) (prev_at side slots3) None (first_at side spots2 n) (leave_out e (list side n))
  chain_elsewhere side n within other =
      let out : leave_out e (list side n) ≡ list side n = leave_out_absent e (list side n) (none_there (occurrences e (list side n)) (λ some. apart_from side n e within other some (its_list spots slots s e live side))) in
      subst (λ l. IsChain (next_at side slots3) (prev_at side slots3) None (first_at side spots2 n) l) (sym out)
      (subst (λ p. IsChain (next_at side slots3) (prev_at side slots3) None p (list side n)) (sym ((passed side).first_other n other))
      (same_chain (next_at side slots) (prev_at side slots) (next_at side slots3) (prev_at side slots3) None (first_at side spots n) (list side n)
      (λ k some. (
        (passed side).bridges.next_miss k (λ is. apart_from side n k within other some (prev_listed spots slots s e live side k is)),
        (passed side).bridges.prev_miss k (λ is. apart_from side n k within other some (next_listed spots slots s e live side k is)),
      ))
      (s.chains side n within))) where
        none_there : (t : ℕ) → (0 < t → ⊥) → t ≡ 0
        none_there zero h = refl
        none_there (suc t) h = absurd (h (omega arith))

  chain_left : (side : Side) (n : ℕ) → n < length spots → IsChain (next_at side slots3) (prev_at side slots3) None (first_at side spots2 n) (leave_out e (list side n))
  chain_left side n within = elim (cases_eq n (end_at side slots e)) [
    | inl is ↦ subst (λ m. IsChain (next_at side slots3) (prev_at side slots3) None (first_at side spots2 m) (leave_out e (list side m))) (sym is) (chain_at_end side)
    | inr other ↦ chain_elsewhere side n within other
  ]

  list_left : (side : Side) (n : ℕ) → n < length spots → list_at side (held_links spots2 slots3) n ≡ leave_out e (list side n)
  list_left side n within =
      list_seen spots2 slots3 side n (omega (arith, within, length-spots2))
      ∙ walk_chain (next_at side slots3) (prev_at side slots3) (length slots3) None (first_at side spots2 n) (leave_out e (list side n)) (chain_left side n within)
      (omega (arith, length-leave_out e (list side n), length-list spots slots s side n within, length-slots3))

  lists_left : (side : Side) → map (list_of side slots3) spots2 ≡ map (leave_out e) (map (list_of side slots) spots)
  lists_left side = same_lists _ _
      (length-map spots2 (list_of side slots3) ∙ length-spots2 ∙ sym (length-map spots (list_of side slots)) ∙ sym (length-map (map (list_of side slots) spots) (leave_out e)))
      (λ k d within.
      let inside : k < length spots = omega (arith, within, length-map spots2 (list_of side slots3), length-spots2) in
      get_or-map (list_of side slots3) spots2 k no_spot d (omega (arith, inside, length-spots2))
      ∙ sym (get_or-map (list_of side slots3) spots2 k no_spot [] (omega (arith, inside, length-spots2)))
      ∙ by_side side k ∙ list_left side k inside ∙ ap (leave_out e) (sym (by_old side k))
      ∙ sym (get_or-map (leave_out e) (map (list_of side slots) spots) k [] d (omega (arith, inside, length-map spots (list_of side slots))))) where
        by_side : (side : Side) (k : ℕ) → get_or (map (list_of side slots3) spots2) k [] ≡ list_at side (held_links spots2 slots3) k
        by_side Out k = refl
        by_side In k = refl

        by_old : (side : Side) (k : ℕ) → get_or (map (list_of side slots) spots) k [] ≡ list_at side (held_links spots slots) k
        by_old Out k = refl
        by_old In k = refl

  edges_left : map slot_edge slots3 ≡ set (map slot_edge slots) e None
  edges_left = map-set slot_edge slots2 e (cut_slot (slot_at slots2 e)) ∙ ap (λ es. set es e None) (unlinked_edges In slots1 e ∙ unlinked_edges Out slots e)

  -- the graph is the old one without the edge
  pub seen_cut : held_links spots2 slots3 ≡ without e (held_links spots slots)
  seen_cut = λ i. record {
    nodes = (unlinked_nodes In slots1 spots1 e ∙ unlinked_nodes Out slots spots e) i;
    edges = edges_left i;
    outs = lists_left Out i;
    ins = lists_left In i;
  }

  -- and it is sound
  pub sound_cut : AreSoundSlots spots2 slots3
  sound_cut = record {
    linked = subst AreEdgesLinked (sym seen_cut) (linked-without (held_links spots slots) e (omega (arith, live_within spots slots e live, length-map slots slot_edge)) s.linked);
    chains = λ side n within.
        let inside : n < length spots = omega (arith, within, length-spots2) in
        subst (λ l. IsChain (next_at side slots3) (prev_at side slots3) None (first_at side spots2 n) l) (sym (list_left side n inside)) (chain_left side n inside);
  }
