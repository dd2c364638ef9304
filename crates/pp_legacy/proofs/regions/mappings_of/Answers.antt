use Rattle.std.proofs.Common.{◌++◌, ◌∷◌, [], sym, ◌∙◌}
use Rattle.pp_legacy.specs.Tables.{mapping_of}
use Rattle.pp_legacy.specs.Seen.{region_of}
use Rattle.pp_legacy.proofs.Numbered.{numbered_seen}
use Rattle.pp_legacy.proofs.regions.mappings_of.Goals as goal

pub loop-place-preserved : goal.loop-place-preserved
loop-place-preserved c =
    c.in_ok-push.ensures.ok ∙ (λ j. c.loop-place.invariant j ++ c.mapping_of.ensures j ∷ [])
    ∙ sym (numbered_seen mapping_of region_of c.args.regions.now c.loop-place.place _ c.loop-place-test.true)
