-- What the first edge of a node and the edge after an edge are.
use Rattle.std.proofs.Common.{◌≡◌, ℕ, ◌+◌, ◌<◌, ◌≤◌, List, [], length, map, get_or, Option, Some, None, inl, inr, refl, sym, ap, subst, ◌∙◌, arith, add-one}
use Rattle.std.specs.List.{slice_get}
use Rattle.std.proofs.lemmas.Bool.{cases_lt}
use Rattle.std.proofs.lemmas.Option.{none-some}
use Rattle.std.proofs.lemmas.List.{length-map, get_or_past, get_or_default}
use Rattle.pp_graph.specs.declared.slot.EdgeSlot.{EdgeSlot}
use Rattle.pp_graph.specs.declared.slot.Spot.{Spot}
use Rattle.pp_graph.specs.declared.slot.Side.{Side}
use Rattle.pp_graph.specs.declared.slot.Side.TheVariants.{Out, In}
use Rattle.pp_graph.specs.Links.{EdgeLinks, IsUncut}
use Rattle.pp_graph.specs.Slots.{hooks, first_of_side, no_slot, no_spot, next_at, prev_at, first_at, list_of, list_at, held_links, AreSoundSlots}
use Rattle.pp_graph.proofs.Chaining.{first_is, next_is}
use Rattle.pp_graph.proofs.Seeing.{live_within}

module _ (spots : List Spot) (slots : List EdgeSlot) (s : AreSoundSlots spots slots) where
  pub first_seen : (side : Side) (n : ℕ) → n < length spots → first_at side spots n ≡ slice_get (list_at side (held_links spots slots) n) 0
  first_seen side n within = first_is (next_at side slots) (prev_at side slots) None (first_at side spots n) (list_at side (held_links spots slots) n) (s.chains side n within)

  listed_within : (side : Side) (n i e : ℕ) → slice_get (list_at side (held_links spots slots) n) i ≡ Some e → n < length spots
  listed_within side n i e at = elim (cases_lt n (length spots)) [
    | inl within ↦ within
    | inr past ↦ absurd (none-some e (sym (ap (λ l. slice_get l i) (no_list side past)) ∙ at))
  ] where
    no_list : (side : Side) → length spots ≤ n → list_at side (held_links spots slots) n ≡ []
    no_list Out past = get_or_past (map (list_of Out slots) spots) n [] (omega (arith, past, length-map spots (list_of Out slots)))
    no_list In past = get_or_past (map (list_of In slots) spots) n [] (omega (arith, past, length-map spots (list_of In slots)))

  pub next_seen : (side : Side) (n i e : ℕ) → slice_get (list_at side (held_links spots slots) n) i ≡ Some e → next_at side slots e ≡ slice_get (list_at side (held_links spots slots) n) (i + 1)
  next_seen side n i e at =
      next_is (next_at side slots) (prev_at side slots) None (first_at side spots n) (list_at side (held_links spots slots) n) i e (s.chains side n (listed_within side n i e at)) at
      ∙ ap (slice_get (list_at side (held_links spots slots) n)) (omega arith)

  -- as the code reads them, in a graph that is these slots
  pub first_read : (g : EdgeLinks) → held_links spots slots ≡ g → (side : Side) (n : ℕ) (x : Spot) → n < length g.nodes → x ≡ get_or spots n x → first_of_side side x ≡ slice_get (list_at side g n) 0
  first_read g is side n x within at =
      let inside : n < length spots = omega (arith, within, ap (λ (h : EdgeLinks). length h.nodes) is, length-map spots (λ (y : Spot). y.node)) in
      ap (first_of_side side) (at ∙ get_or_default spots n x no_spot inside) ∙ first_seen side n inside ∙ ap (λ h. slice_get (list_at side h n) 0) is

  pub next_read : (g : EdgeLinks) → held_links spots slots ≡ g → (side : Side) (e : ℕ) (x : EdgeSlot) → IsUncut g e → x ≡ get_or slots e x
      → (n i : ℕ) → slice_get (list_at side g n) i ≡ Some e → (hooks side x).next ≡ slice_get (list_at side g n) (i + 1)
  next_read g is side e x live at n i here =
      ap (λ y. (hooks side y).next) (at ∙ get_or_default slots e x no_slot (live_within spots slots e (subst (λ h. IsUncut h e) (sym is) live)))
      ∙ next_seen side n i e (ap (λ h. slice_get (list_at side h n) i) is ∙ here)
      ∙ ap (λ h. slice_get (list_at side h n) (i + 1)) is
