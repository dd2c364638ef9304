use Rattle.std.proofs.Common.{◌<◌, [], ◌++◌, length, ap, ◌∙◌, refl, arith}
use Rattle.std.proofs.lemmas.List.{length-set}
use Rattle.pp_share.specs.Walk.{met_after}
use Rattle.pp_share.proofs.ChangeLemmas.{changed_front, change_next, item_kept}
use Rattle.pp_share.proofs.WalkLemmas.{met_next, met_later}
use Rattle.pp_share.proofs.placing.place_each.Goals as goal

-- one more item
pub loop-index-preserved : goal.loop-index-preserved
loop-index-preserved g c =
    let refs = g.T.Place.refs in
    let placed = g.T.Place.placed in
    let kept = c.loop-index.invariant in
    let xs = c.args.items.now in
    let k = c.loop-index.index in
    let x = c.item_mut.result.now in
    let met = c.loop-index.met in
    let now = c.place.new.met in
    let step = c.in_ok-place.ensures in
    let within : k < length xs = omega arith in
    record {
      met_so_far = met_next refs xs k x c.args.met.now met now within (item_kept (placed met) xs c.loop-index.items k x (kept.so_far []) c.item_mut.ensures.value within) kept.met_so_far step.met;
      so_far = λ more.
          change_next (placed (met_after now more)) xs c.loop-index.items _ k x c.place.new.self
          (kept.so_far (refs x ++ more) ∙ ap (λ m. changed_front (placed m) xs k) (met_later met now (refs x) more step.met)) c.item_mut.ensures.value
          (step.placed more) refl;
      as_long = length-set c.loop-index.items k c.place.new.self ∙ kept.as_long;
    }
