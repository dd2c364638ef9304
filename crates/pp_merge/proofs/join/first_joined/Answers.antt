use Rattle.std.proofs.Common.{ap, ◌∙◌}
use Rattle.pp_merge.specs.Joined.{moved_behind}
use Rattle.pp_merge.proofs.join.first_joined.Goals as goal

pub returns : goal.returns
returns c = c.in_ok-moved.ensures ∙ ap (λ sizes. moved_behind sizes c.args.p) c.no_sizes-sizes.ensures.same
