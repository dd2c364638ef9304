use Rattle.std.specs.Option.{option_copied}
use Rattle.pp_pattern.proofs.FoundLemmas.{verdicts_law}
use Rattle.pp_pattern.proofs.report.judge.Goals as goal

-- the verdicts are what the patterns find
pub returns-clause-law : goal.returns-clause-law
returns-clause-law g c = verdicts_law g.D.Desk.finds c.args.filtering.now (option_copied c.args.own) c.args.l.now
