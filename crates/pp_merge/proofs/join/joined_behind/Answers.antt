use Rattle.std.proofs.Common.{ap, ◌∙◌}
use Rattle.pp_merge.specs.Joined.{moved_behind, chained}
use Rattle.pp_merge.proofs.join.joined_behind.Goals as goal

pub returns : goal.returns
returns c =
    c.in_ok-both.ensures
    ∙ ap (chained c.args.joined) (c.in_ok-moved.ensures ∙ ap (λ sizes. moved_behind sizes c.args.p) c.sizes_of-sizes.ensures.same)
