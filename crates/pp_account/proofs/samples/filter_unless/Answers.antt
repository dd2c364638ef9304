use Rattle.std.proofs.Common.{sym, ◌∙◌}
use Rattle.pp_account.proofs.Firsts.{none_if_left}
use Rattle.pp_account.proofs.samples.filter_unless.Goals as goal

-- what is left has no such filter
pub returns-then-is_kept : goal.returns-then-is_kept
returns-then-is_kept c = λ f holds kept.
    none_if_left c.args.scope.now.l.now.profile f c.args.scope.now.config.now.filtering c.args.s.now (sym kept ∙ c.if-is_kept.true)
