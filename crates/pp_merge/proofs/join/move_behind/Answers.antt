use Rattle.std.proofs.Common.{ap, ◌∙◌}
use Rattle.pp_share.specs.Renumbered.{renumbered}
use Rattle.pp_merge.proofs.join.move_behind.Goals as goal

pub returns : goal.returns
returns c = c.renumber.ensures ∙ ap (λ by. renumbered by c.args.p.now) c.in_ok-by.ensures
