-- The patterns of a report, and what they find.
use Rattle.std.specs.Prelude.{Result, Ok, Err, option_map}
use Rattle.pp_desk.specs.Asking.{Asking}
use Rattle.pp_desk.specs.Script.{Give, ◌>>=◌}
use Rattle.pp_model.specs.declared.loaded.Loaded.{Loaded}
use Rattle.pp_model.specs.declared.report.Report.{Report}
use Rattle.pp_model.specs.declared.verdicts.Verdicts.{Verdicts}
use Rattle.pp_model.specs.declared.filtering.Filtering.{Filtering}
use Rattle.pp_model.specs.Finders.{Finders}
use Rattle.pp_model.specs.ReportFacts.{own_pattern}
use Rattle.pp_stack.specs.LoadFinders.{finder_by}
use Rattle.pp_pattern.specs.declared.report.PatternRefused.{PatternRefused as Refused}
use Rattle.pp_pattern.specs.Report.{Finds, judge, finders_of}
use Rattle.pp_report.specs.declared.refusal.ReportRefusal.{ReportRefusal}
use Rattle.pp_report.specs.declared.refusal.ReportRefusal.TheVariants.{PatternRefused}

-- What the patterns of a report find, and those of its profile.
abbrev pub report_finders : Finds → Loaded → Report → Filtering → Finders
report_finders finds l report filtering =
    finders_of finds filtering (own_pattern report) (option_map (finder_by l.profile) l.drop)
    (option_map (finder_by l.profile) l.keep)

-- the answer to the patterns, as one to the report
abbrev pub of_judged : Result Verdicts Refused → Result Verdicts ReportRefusal
of_judged (Ok verdicts) = Ok verdicts
of_judged (Err refused) = Err (PatternRefused refused.option)

-- Asks for the patterns of a report that aren't empty, up to the first that is refused.
unfoldable pub ask_patterns : Finds → Loaded → Report → Filtering → Asking ReportRefusal Verdicts
ask_patterns finds l report filtering =
    judge finds filtering (own_pattern report) l.profile >>= (λ judged. Give (of_judged judged))
