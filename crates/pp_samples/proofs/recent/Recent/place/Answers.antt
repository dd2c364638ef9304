use Rattle.std.proofs.Common.{◌≡◌, ◌<◌, Some, None, length, get_or, sym, ap, ◌∙◌, arith}
use Rattle.std.proofs.lemmas.List.{get_or_default}
use Rattle.pp_model.specs.declared.profile.Label.{Label}
use Rattle.pp_samples.specs.declared.recent.PlacedLabel.{PlacedLabel}
use Rattle.pp_samples.proofs.CountLemmas.{known_label}
use Rattle.pp_samples.proofs.recent.Recent.place.Goals as goal

-- the slot has the label
pub returns-in-Some-Some : goal.returns-in-Some-Some
returns-in-Some-Some c =
    let slot = c.slot_of.result in
    let placed : PlacedLabel = c.in-Some-Some.placed in
    let label : placed.label ≡ c.args.label.now = known_label placed.label c.args.label.now (sym c.eq.ensures ∙ c.if-eq.true) in
    let found = c.in-Some-Some.ensures.lookup in
    let inside : slot < length c.deref.result.now = grind (arith, found.0) in
    record {
      slot = slot;
      is =
          (λ i. get_or (sym c.deref.ensures.value i) slot None)
          ∙ get_or_default c.deref.result.now slot None c.in-Some-Some.field-0.now inside
          ∙ sym found.1 ∙ c.in-Some-Some.field-0-is
          ∙ ap (λ (l : Label). Some (record { label = l; place = placed.place })) label;
    }
