-- A graph stays sound when an edge is added.
use Rattle.std.proofs.Common.{◌≡◌, ◌≢◌, ℕ, zero, suc, eqb, ◌+◌, ◌<◌, ◌≤◌, Bool, true, false, cond, List, [], ◌∷◌, ◌++◌, length, map, get_or, set, Option, Some, None, inl, inr, ◌⊎◌, refl, sym, ap, subst, ◌∙◌, arith}
use Rattle.std.specs.List.{slice_get}
use Rattle.std.proofs.Math.Seq.{map-set_same}
use Rattle.std.proofs.lemmas.Bool.{cases_eq, cases_lt, cases_order, eq-eqb, eqb-true, false≢true}
use Rattle.std.proofs.lemmas.Option.{none-some, same_Some, slice_get-get_or, slice_get_within, get_or_from_slice_get}
use Rattle.std.proofs.lemmas.List.{get_or-map, length-map, length-set, same_lists, get_or_past, get_or_push, get_or_append_left, length_push, map-append, length-append}
use Rattle.pp_count.specs.declared.edge.Edge.{Edge}
use Rattle.pp_graph.specs.declared.node.Node.{Node}
use Rattle.pp_graph.specs.declared.slot.Hooks.{Hooks}
use Rattle.pp_graph.specs.declared.slot.EdgeSlot.{EdgeSlot}
use Rattle.pp_graph.specs.declared.slot.Spot.{Spot}
use Rattle.pp_graph.specs.declared.slot.Side.{Side}
use Rattle.pp_graph.specs.declared.slot.Side.TheVariants.{Out, In}
use Rattle.pp_graph.specs.Lists.{once_if, occurrences}
use Rattle.pp_graph.specs.Links.{EdgeLinks, AreEdgesLinked, numbered_edge}
use Rattle.pp_graph.specs.Chains.{walk, holds_number, IsChain}
use Rattle.pp_graph.specs.Slots.{hooks, hooks_at, next_at, prev_at, first_of_side, first_at, side_end, end_at, slot_at, spot_at, slot_edge, no_slot, no_spot, list_of, list_at, held_links, has_end, AreSoundSlots, HasLinks, linked_slots, linked_spots, new_slot, with_prev, with_first}
use Rattle.pp_graph.proofs.Chaining.{IsApart, eqb-not, first_in, same_chain, pushed_chain, walk_chain, times-here, times-there, number_is, number_not}
use Rattle.pp_graph.proofs.Setting.{read_kept, kept-prev_set, prev-prev_set, length-prev_set, edges-prev_set, next-with_prev, other-with_prev, edge-with_prev, other-with_first, first-first_set, nodes-first_set, IsWithin, other}
use Rattle.pp_graph.proofs.Seeing.{at_end, has_end_is, list_seen, edge_seen, counts, apart_at, listed_end, listed_within, same_end, length-list}

-- what is read of a list with one more item at its end
read_push : {X A : Type 0} (g : X → A) (xs : List X) (x d : X) (k : ℕ) → g (get_or (xs ++ x ∷ []) k d) ≡ cond (eqb k (length xs)) (g x) (g (get_or xs k d))
read_push g xs x d k = elim (cases_order k (length xs)) [
  | inl is ↦ ap g (get_or_push xs x d k (sym is)) ∙ ap (λ b. cond b (g x) (g (get_or xs k d))) (sym (eq-eqb k (length xs) is))
  | inr (inl below) ↦ ap g (get_or_append_left xs (x ∷ []) d k below) ∙ ap (λ b. cond b (g x) (g (get_or xs k d))) (sym (eqb-not k (length xs) (λ is. omega (arith, below, is))))
  | inr (inr above) ↦ ap g (get_or_past (xs ++ x ∷ []) k d (omega (arith, above, length_push xs x)) ∙ sym (get_or_past xs k d (omega (arith, above)))) ∙ ap (λ b. cond b (g x) (g (get_or xs k d))) (sym (eqb-not k (length xs) (λ is. omega (arith, above, is))))
]

module _ (side : Side) (spots : List Spot) (slots : List EdgeSlot) (e : ℕ) (has : HasLinks side spots slots e) where
  linked_next : (k : ℕ) → next_at side (linked_slots side e slots) k ≡ next_at side slots k
  linked_next k = kept-prev_set side (Some e) slots (λ x. (hooks side x).next) (next-with_prev side (Some e)) (next_at side slots e) k has.next

  linked_prev : (k : ℕ) → prev_at side (linked_slots side e slots) k ≡ cond (holds_number (next_at side slots e) k) (Some e) (prev_at side slots k)
  linked_prev k = prev-prev_set side (Some e) slots (next_at side slots e) k has.next

  linked_hooks : (k : ℕ) → hooks_at (other side) (linked_slots side e slots) k ≡ hooks_at (other side) slots k
  linked_hooks k = kept-prev_set side (Some e) slots (hooks (other side)) (other-with_prev side (Some e)) (next_at side slots e) k has.next

  linked_edge : (k : ℕ) → (slot_at (linked_slots side e slots) k).edge ≡ (slot_at slots k).edge
  linked_edge k = kept-prev_set side (Some e) slots (λ x. x.edge) (λ x. (edge-with_prev side (Some e) x).0) (next_at side slots e) k has.next

  linked_first : (m : ℕ) → first_at side (linked_spots side e slots spots) m ≡ cond (eqb (end_at side slots e) m) (Some e) (first_at side spots m)
  linked_first m = first-first_set side (end_at side slots e) m (Some e) spots has.spot

  linked_firsts : (m : ℕ) → first_at (other side) (linked_spots side e slots spots) m ≡ first_at (other side) spots m
  linked_firsts m = read_kept (first_of_side (other side)) no_spot spots (end_at side slots e) m (with_first side (Some e) (spot_at spots (end_at side slots e))) has.spot (other-with_first side (Some e) (spot_at spots (end_at side slots e)))

module _ (spots : List Spot) (slots : List EdgeSlot) (s : AreSoundSlots spots slots) (edge : Edge) (from : edge.from < length spots) (to : edge.to < length spots) where
  -- the number of the new edge
  abbrev e : ℕ
  e = length slots

  -- the slots and nodes after each step
  abbrev slots0 : List EdgeSlot
  slots0 = slots ++ new_slot spots edge ∷ []

  abbrev slots1 : List EdgeSlot
  slots1 = linked_slots Out e slots0

  abbrev spots1 : List Spot
  spots1 = linked_spots Out e slots0 spots

  abbrev pub slots2 : List EdgeSlot
  slots2 = linked_slots In e slots1

  abbrev pub spots2 : List Spot
  spots2 = linked_spots In e slots1 spots1

  length-slots1 : length slots1 ≡ length slots + 1
  length-slots1 = length-prev_set Out (Some e) slots0 (next_at Out slots0 e) ∙ length_push slots (new_slot spots edge)

  length-slots2 : length slots2 ≡ length slots + 1
  length-slots2 = length-prev_set In (Some e) slots1 (next_at In slots1 e) ∙ length-slots1

  length-spots1 : length spots1 ≡ length spots
  length-spots1 = length-set spots (end_at Out slots0 e) (with_first Out (Some e) (spot_at spots (end_at Out slots0 e)))

  pub length-spots2 : length spots2 ≡ length spots
  length-spots2 = length-set spots1 (end_at In slots1 e) (with_first In (Some e) (spot_at spots1 (end_at In slots1 e))) ∙ length-spots1

  -- what the slots hold before the edge is linked
  newest : slot_at slots0 e ≡ new_slot spots edge
  newest = get_or_push slots (new_slot spots edge) no_slot e refl

  -- the first edge so far is one of the slots
  first_slot : (side : Side) (n k : ℕ) → n < length spots → first_at side spots n ≡ Some k → k < length slots
  first_slot side n k within is = listed_within spots slots s side n k within
      (first_in (next_at side slots) (prev_at side slots) None (first_at side spots n) (list_at side (held_links spots slots) n) k (s.chains side n within) is)

  pub out_place : HasLinks Out spots slots0 e
  out_place = record {
    slot = omega (arith, length_push slots (new_slot spots edge));
    spot = omega (arith, from, ap (λ (x : EdgeSlot). x.edge.from) newest);
    next = λ k is. omega (arith, first_slot Out edge.from k from (sym (ap (λ (x : EdgeSlot). x.out.next) newest) ∙ is), length_push slots (new_slot spots edge));
    prev = λ k is. absurd (none-some k (sym (ap (λ (x : EdgeSlot). x.out.prev) newest) ∙ is));
  }

  in_hooks1 : (k : ℕ) → hooks_at In slots1 k ≡ hooks_at In slots0 k
  in_hooks1 k = linked_hooks Out spots slots0 e out_place k

  end1 : end_at In slots1 e ≡ edge.to
  end1 = ap (λ (x : Edge). x.to) (linked_edge Out spots slots0 e out_place e ∙ ap (λ (x : EdgeSlot). x.edge) newest)

  in_next1 : next_at In slots1 e ≡ first_at In spots edge.to
  in_next1 = ap (λ (h : Hooks). h.next) (in_hooks1 e ∙ ap (λ (x : EdgeSlot). x.into) newest)

  in_prev1 : prev_at In slots1 e ≡ None
  in_prev1 = ap (λ (h : Hooks). h.prev) (in_hooks1 e ∙ ap (λ (x : EdgeSlot). x.into) newest)

  pub in_place : HasLinks In spots1 slots1 e
  in_place = record {
    slot = omega (arith, length-slots1);
    spot = omega (arith, to, end1, length-spots1);
    next = λ k is. omega (arith, first_slot In edge.to k to (sym in_next1 ∙ is), length-slots1);
    prev = λ k is. absurd (none-some k (sym in_prev1 ∙ is));
  }

  -- the links of the end
  end : Side → ℕ
  end side = side_end side edge

  end_within : (side : Side) → side_end side edge < length spots
  end_within Out = from
  end_within In = to

  old_next : (side : Side) (k : ℕ) → next_at side slots0 k ≡ cond (eqb k e) (first_at side spots (side_end side edge)) (next_at side slots k)
  old_next side k = read_push (λ x. (hooks side x).next) slots (new_slot spots edge) no_slot k ∙ by_side side where
    by_side : (side : Side) → cond (eqb k e) (hooks side (new_slot spots edge)).next (next_at side slots k) ≡ cond (eqb k e) (first_at side spots (side_end side edge)) (next_at side slots k)
    by_side Out = refl
    by_side In = refl

  old_prev : (side : Side) (k : ℕ) → prev_at side slots0 k ≡ cond (eqb k e) None (prev_at side slots k)
  old_prev side k = read_push (λ x. (hooks side x).prev) slots (new_slot spots edge) no_slot k ∙ by_side side where
    by_side : (side : Side) → cond (eqb k e) (hooks side (new_slot spots edge)).prev (prev_at side slots k) ≡ cond (eqb k e) None (prev_at side slots k)
    by_side Out = refl
    by_side In = refl

  all_next : (side : Side) (k : ℕ) → next_at side slots2 k ≡ cond (eqb k e) (first_at side spots (side_end side edge)) (next_at side slots k)
  all_next Out k = ap (λ (h : Hooks). h.next) (linked_hooks In spots1 slots1 e in_place k) ∙ linked_next Out spots slots0 e out_place k ∙ old_next Out k
  all_next In k = linked_next In spots1 slots1 e in_place k ∙ ap (λ (h : Hooks). h.next) (in_hooks1 k) ∙ old_next In k

  all_prev : (side : Side) (k : ℕ) → prev_at side slots2 k ≡ cond (holds_number (first_at side spots (side_end side edge)) k) (Some e) (cond (eqb k e) None (prev_at side slots k))
  all_prev Out k =
      ap (λ (h : Hooks). h.prev) (linked_hooks In spots1 slots1 e in_place k) ∙ linked_prev Out spots slots0 e out_place k
      ∙ (λ i. cond (holds_number (ap (λ (x : EdgeSlot). x.out.next) newest i) k) (Some e) (old_prev Out k i))
  all_prev In k =
      linked_prev In spots1 slots1 e in_place k
      ∙ (λ i. cond (holds_number (in_next1 i) k) (Some e) ((ap (λ (h : Hooks). h.prev) (in_hooks1 k) ∙ old_prev In k) i))

  all_first : (side : Side) (m : ℕ) → first_at side spots2 m ≡ cond (eqb (side_end side edge) m) (Some e) (first_at side spots m)
  all_first Out m = linked_firsts In spots1 slots1 e in_place m ∙ linked_first Out spots slots0 e out_place m ∙ ap (λ n. cond (eqb n m) (Some e) (first_at Out spots m)) (ap (λ (x : EdgeSlot). x.edge.from) newest)
  all_first In m = linked_first In spots1 slots1 e in_place m ∙ (λ i. cond (eqb (end1 i) m) (Some e) (linked_firsts Out spots slots0 e out_place m i))

  abbrev list : Side → ℕ → List ℕ
  list side n = list_at side (held_links spots slots) n

  old_number : (side : Side) (n k : ℕ) → n < length spots → 0 < occurrences k (list side n) → k ≢ e
  old_number side n k within some is = omega (arith, listed_within spots slots s side n k within some, is)

  not_new : (side : Side) (n : ℕ) → n < length spots → occurrences e (list side n) ≡ 0
  not_new side n within = none_there (occurrences e (list side n)) (λ some. old_number side n e within some refl) where
    none_there : (t : ℕ) → (0 < t → ⊥) → t ≡ 0
    none_there zero h = refl
    none_there (suc t) h = absurd (h (omega arith))

  next_kept : (side : Side) (k : ℕ) → k ≢ e → next_at side slots2 k ≡ next_at side slots k
  next_kept side k apart = all_next side k ∙ ap (λ b. cond b (first_at side spots (side_end side edge)) (next_at side slots k)) (eqb-not k e apart)

  prev_kept : (side : Side) (k : ℕ) → k ≢ e → first_at side spots (side_end side edge) ≢ Some k → prev_at side slots2 k ≡ prev_at side slots k
  prev_kept side k apart miss =
      all_prev side k ∙ ap (λ b. cond b (Some e) (cond (eqb k e) None (prev_at side slots k))) (number_not (first_at side spots (side_end side edge)) k miss)
      ∙ ap (λ b. cond b None (prev_at side slots k)) (eqb-not k e apart)

  chain_at_end : (side : Side) → IsChain (next_at side slots2) (prev_at side slots2) None (first_at side spots2 (side_end side edge)) (e ∷ list side (side_end side edge))
  chain_at_end side =
      subst (λ p. IsChain (next_at side slots2) (prev_at side slots2) None p (e ∷ list side (side_end side edge)))
      (sym (all_first side (side_end side edge) ∙ ap (λ b. cond b (Some e) (first_at side spots (side_end side edge))) (eq-eqb (side_end side edge) (side_end side edge) refl)))
      (pushed_chain (next_at side slots) (prev_at side slots) (next_at side slots2) (prev_at side slots2) e (first_at side spots (side_end side edge)) (list side (side_end side edge))
      (not_new side (side_end side edge) (end_within side)) (apart_at spots slots s side (side_end side edge) (end_within side))
      (all_next side e ∙ ap (λ b. cond b (first_at side spots (side_end side edge)) (next_at side slots e)) (eq-eqb e e refl))
      (next_kept side)
      (all_prev side e ∙ ap (λ b. cond b (Some e) (cond (eqb e e) None (prev_at side slots e))) (number_not (first_at side spots (side_end side edge)) e (λ is. omega (arith, first_slot side (side_end side edge) e (end_within side) is)))
      ∙ ap (λ b. cond b None (prev_at side slots e)) (eq-eqb e e refl))
      (λ k is. all_prev side k ∙ ap (λ b. cond b (Some e) (cond (eqb k e) None (prev_at side slots k))) (number_is (first_at side spots (side_end side edge)) k is))
      (prev_kept side)
      (s.chains side (side_end side edge) (end_within side)))

  chain_elsewhere : (side : Side) (n : ℕ) → n < length spots → n ≢ side_end side edge → IsChain (next_at side slots2) (prev_at side slots2) None (first_at side spots2 n) (list side n)
  chain_elsewhere side n within apart =
      subst (λ p. IsChain (next_at side slots2) (prev_at side slots2) None p (list side n))
      (sym (all_first side n ∙ ap (λ b. cond b (Some e) (first_at side spots n)) (eqb-not (side_end side edge) n (λ is. apart (sym is)))))
      (same_chain (next_at side slots) (prev_at side slots) (next_at side slots2) (prev_at side slots2) None (first_at side spots n) (list side n)
      (λ k some. (
        next_kept side k (old_number side n k within some),
        prev_kept side k (old_number side n k within some)
            (λ is. apart (same_end spots slots side n (side_end side edge) k (listed_end spots slots s side n k within some)
            (listed_end spots slots s side (side_end side edge) k (end_within side)
            (first_in (next_at side slots) (prev_at side slots) None (first_at side spots (side_end side edge)) (list side (side_end side edge)) k (s.chains side (side_end side edge) (end_within side)) is)))),
      ))
      (s.chains side n within))

  -- the lists with the edge in front of those of its ends
  abbrev added : Side → ℕ → List ℕ
  added side n = cond (eqb n (side_end side edge)) (e ∷ list side n) (list side n)

  chain_added : (side : Side) (n : ℕ) → n < length spots → IsChain (next_at side slots2) (prev_at side slots2) None (first_at side spots2 n) (added side n)
  chain_added side n within = elim (cases_eq n (side_end side edge)) [
    | inl is ↦ subst (λ b. IsChain (next_at side slots2) (prev_at side slots2) None (first_at side spots2 n) (cond b (e ∷ list side n) (list side n))) (sym (eq-eqb n (side_end side edge) is))
        (subst (λ m. IsChain (next_at side slots2) (prev_at side slots2) None (first_at side spots2 m) (e ∷ list side m)) (sym is) (chain_at_end side))
    | inr apart ↦ subst (λ b. IsChain (next_at side slots2) (prev_at side slots2) None (first_at side spots2 n) (cond b (e ∷ list side n) (list side n))) (sym (eqb-not n (side_end side edge) apart))
        (chain_elsewhere side n within apart)
  ]

  short : (side : Side) (n : ℕ) → n < length spots → length (added side n) ≤ length slots2
  short side n within = elim (eqb n (side_end side edge)) as (λ b. length (cond b (e ∷ list side n) (list side n)) ≤ length slots2) [
    | true ↦ omega (arith, length-list spots slots s side n within, length-slots2)
    | false ↦ omega (arith, length-list spots slots s side n within, length-slots2)
  ]

  list_added : (side : Side) (n : ℕ) → n < length spots → list_at side (held_links spots2 slots2) n ≡ added side n
  list_added side n within =
      list_seen spots2 slots2 side n (omega (arith, within, length-spots2))
      ∙ walk_chain (next_at side slots2) (prev_at side slots2) (length slots2) None (first_at side spots2 n) (added side n) (chain_added side n within) (short side n within)

  pub edges_added : map slot_edge slots2 ≡ map slot_edge slots0
  edges_added = edges-prev_set In (Some e) slots1 (next_at In slots1 e) ∙ edges-prev_set Out (Some e) slots0 (next_at Out slots0 e)

  pub nodes_added : map (λ (x : Spot). x.node) spots2 ≡ map (λ (x : Spot). x.node) spots
  nodes_added = nodes-first_set In (end_at In slots1 e) (Some e) spots1 ∙ nodes-first_set Out (end_at Out slots0 e) (Some e) spots

  edges_are : map slot_edge slots2 ≡ map slot_edge slots ++ Some edge ∷ []
  edges_are = edges_added ∙ map-append slot_edge slots (new_slot spots edge ∷ [])

  edge_added : (k : ℕ) → numbered_edge (held_links spots2 slots2) k ≡ cond (eqb k e) (Some edge) (numbered_edge (held_links spots slots) k)
  edge_added k =
      ap (λ es. get_or es k None) edges_are ∙ read_push (λ x. x) (map slot_edge slots) (Some edge) None k
      ∙ ap (λ n. cond (eqb k n) (Some edge) (numbered_edge (held_links spots slots) k)) (length-map slots slot_edge)

  count_added : (side : Side) (n k : ℕ) → n < length spots → occurrences k (list_at side (held_links spots2 slots2) n) ≡ once_if (has_end side (held_links spots2 slots2) n k)
  count_added side n k within =
      ap (occurrences k) (list_added side n within)
      ∙ elim (cases_eq k e) [
        | inl is ↦ ap (λ j. occurrences j (added side n)) is ∙ new_count ∙ sym (ap (λ b. once_if (at_end side (cond b (Some edge) (numbered_edge (held_links spots slots) k)) n)) (eq-eqb k e is))
        | inr apart ↦ old_count apart ∙ counts spots slots s side n k within ∙ ap once_if (has_end_is side (held_links spots slots) n k)
            ∙ sym (ap (λ b. once_if (at_end side (cond b (Some edge) (numbered_edge (held_links spots slots) k)) n)) (eqb-not k e apart))
      ]
      ∙ ap (λ o. once_if (at_end side o n)) (sym (edge_added k)) ∙ ap once_if (sym (has_end_is side (held_links spots2 slots2) n k)) where
        new_count : occurrences e (added side n) ≡ once_if (eqb (side_end side edge) n)
        new_count = elim (cases_eq n (side_end side edge)) [
          | inl is ↦ ap (λ b. occurrences e (cond b (e ∷ list side n) (list side n))) (eq-eqb n (side_end side edge) is)
              ∙ omega (arith, times-here e e (list side n) refl, not_new side n within) ∙ ap once_if (sym (eq-eqb (side_end side edge) n (sym is)))
          | inr apart ↦ ap (λ b. occurrences e (cond b (e ∷ list side n) (list side n))) (eqb-not n (side_end side edge) apart)
              ∙ not_new side n within ∙ ap once_if (sym (eqb-not (side_end side edge) n (λ is. apart (sym is))))
        ]

        old_count : k ≢ e → occurrences k (added side n) ≡ occurrences k (list side n)
        old_count apart = elim (eqb n (side_end side edge)) as (λ b. occurrences k (cond b (e ∷ list side n) (list side n)) ≡ occurrences k (list side n)) [
          | true ↦ times-there k e (list side n) (λ is. apart (sym is))
          | false ↦ refl
        ]

  ends_added : (k : ℕ) (x : Edge) → slice_get (map slot_edge slots ++ Some edge ∷ []) k ≡ Some (Some x) → (x.from < length spots) × (x.to < length spots)
  ends_added k x is =
      let inside : k < length slots + 1 = omega (arith, slice_get_within (map slot_edge slots ++ Some edge ∷ []) k (Some x) is, length_push (map slot_edge slots) (Some edge), length-map slots slot_edge) in
      let read : get_or (map slot_edge slots ++ Some edge ∷ []) k None ≡ Some x = get_or_from_slice_get (map slot_edge slots ++ Some edge ∷ []) k (Some x) None is in
      elim (cases_eq k e) [
        | inl new ↦
            let same : edge ≡ x = same_Some edge x (sym (get_or_push (map slot_edge slots) (Some edge) None k (length-map slots slot_edge ∙ sym new)) ∙ read) in
            (subst (λ (y : Edge). y.from < length spots) same from, subst (λ (y : Edge). y.to < length spots) same to)
        | inr apart ↦
            let old : k < length (map slot_edge slots) = omega (arith, inside, apart, length-map slots slot_edge) in
            let was = s.linked.ends k x (slice_get-get_or (map slot_edge slots) k None old ∙ ap Some (sym (get_or_append_left (map slot_edge slots) (Some edge ∷ []) None k old) ∙ read)) in
            (omega (arith, was.0, length-map spots (λ (y : Spot). y.node)), omega (arith, was.1, length-map spots (λ (y : Spot). y.node)))
      ]

  -- the graph with the edge is sound
  pub sound_added : AreSoundSlots spots2 slots2
  sound_added = record {
    linked = record {
      outs = length-map spots2 (list_of Out slots2) ∙ sym (length-map spots2 (λ (x : Spot). x.node));
      ins = length-map spots2 (list_of In slots2) ∙ sym (length-map spots2 (λ (x : Spot). x.node));
      out = λ n k within. count_added Out n k (inside n within);
      into = λ n k within. count_added In n k (inside n within);
      ends = λ k x is.
          let both = ends_added k x (ap (λ es. slice_get es k) (sym edges_are) ∙ is) in
          (omega (arith, both.0, length-map spots2 (λ (y : Spot). y.node), length-spots2), omega (arith, both.1, length-map spots2 (λ (y : Spot). y.node), length-spots2));
      names = λ n node is. s.linked.names n node (ap (λ ns. slice_get ns n) (sym nodes_added) ∙ is);
    };
    chains = λ side n within.
        let here : n < length spots = omega (arith, within, length-spots2) in
        subst (λ l. IsChain (next_at side slots2) (prev_at side slots2) None (first_at side spots2 n) l) (sym (list_added side n here)) (chain_added side n here);
  } where
    inside : (n : ℕ) → n < length (map (λ (x : Spot). x.node) spots2) → n < length spots
    inside n within = omega (arith, within, length-map spots2 (λ (x : Spot). x.node), length-spots2)
