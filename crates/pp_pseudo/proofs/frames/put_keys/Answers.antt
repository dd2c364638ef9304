use Rattle.std.proofs.Common.{List, ℕ, map, arith, subst, ◌∙◌}
use Rattle.std.specs.Option.{option_to_list}
use Rattle.pp_pseudo.specs.Values.{frame_name}
use Rattle.pp_pseudo.specs.WithTags.{tag_location}
use Rattle.pp_pseudo.specs.Framed.{placing, AddsFrames}
use Rattle.pp_pseudo.proofs.AddingFrames.{adds_key}
use Rattle.pp_pseudo.proofs.frames.put_keys.Goals as goal

-- one key more
pub loop-left-preserved : goal.loop-left-preserved
loop-left-preserved c =
    let p = c.args.p.now in
    let labels = c.args.labels.now in
    let here = placing c.loop-left.frames c.loop-left.ids in
    let next = placing c.put_key.new.frames c.put_key.new.ids in
    record {
      within = omega (arith, c.loop-left.invariant.within);
      adds =
          adds_key p labels c.args.keys.now c.loop-left.left c.index-keys-left.result (placing c.args.frames.now c.args.ids.now) here next
          (omega (arith, c.loop-left-test.true)) c.loop-left.invariant.within c.loop-left.invariant.adds
          (subst (λ (key : List ℕ). AddsFrames p here next (map tag_location (option_to_list (frame_name p labels key)))) (c.as_slice.ensures ∙ c.index-keys-left.is) c.in_ok-put_key.ensures);
    }
