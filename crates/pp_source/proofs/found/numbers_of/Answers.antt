use Rattle.std.proofs.Common.{◌∙◌}
use Rattle.pp_source.specs.Found.{part_number}
use Rattle.pp_source.proofs.Parts.{mapped_more}
use Rattle.pp_source.proofs.found.numbers_of.Goals as goal

pub loop-number-preserved : goal.loop-number-preserved
loop-number-preserved c =
    c.in_ok-push.ensures.items
    ∙ mapped_more (part_number c.args.part c.args.names.now.keys) c.args.keys.now c.loop-number.number c.key.result c.loop-number.numbers.items _ c.key.ensures c.loop-number.invariant c.part_number.ensures
