use Rattle.std.proofs.Common.{◌∙◌}
use Rattle.pp_tree.proofs.Marking.{marked_more}
use Rattle.pp_tree.proofs.own.marks.Goals as goal

pub loop-number-preserved : goal.loop-number-preserved
loop-number-preserved c =
    c.in_ok-push.ensures.ok ∙ marked_more c.args.names.now c.args.keys.now.keys c.loop-number.number c.loop-number.marks c.key-key.result _ c.key-key.ensures c.contains.ensures c.loop-number.invariant
