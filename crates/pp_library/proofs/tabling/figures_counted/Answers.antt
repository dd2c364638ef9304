use Rattle.pp_model.specs.declared.report.Report.TheVariants.{Table}
use Rattle.pp_report.specs.Patterns.{report_finders}
use Rattle.pp_library.proofs.tabling.figures_counted.Goals as goal

-- the figures are those of the report's own patterns
pub returns-clause-is : goal.returns-clause-is
returns-clause-is g c = c.figures_by.ensures.is (report_finders g.M.Matcher.finds c.args.l.now Table c.args.config.now.filtering) c.requires.holds

-- so are the edges
pub returns-clause-edges : goal.returns-clause-edges
returns-clause-edges g c = c.figures_by.ensures.edges (report_finders g.M.Matcher.finds c.args.l.now Table c.args.config.now.filtering) c.requires.holds
