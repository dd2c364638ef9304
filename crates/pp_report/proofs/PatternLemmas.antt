-- The verdicts of a report's patterns are what its finders find.
use Rattle.std.proofs.Common.{ℕ}
use Rattle.std.specs.Prelude.{Option, option_map}
use Rattle.pp_model.specs.declared.loaded.Loaded.{Loaded}
use Rattle.pp_model.specs.declared.report.Report.{Report}
use Rattle.pp_model.specs.declared.verdicts.Verdicts.{Verdicts}
use Rattle.pp_model.specs.declared.filtering.Filtering.{Filtering}
use Rattle.pp_model.specs.Conditions.{IsColumnOf}
use Rattle.pp_model.specs.Rules.{IsCompact}
use Rattle.pp_model.specs.Sizes.{IsCountable}
use Rattle.pp_pattern.specs.Report.{Finds, AreVerdictsOf}
use Rattle.pp_stack.specs.LoadFinders.{finder_by}
use Rattle.pp_stack.proofs.LoadFinderLemmas.{same_judged}
use Rattle.pp_count.specs.Counted.{CanCount}
use Rattle.pp_count.specs.Seeing.{HoldsFilters}
use Rattle.pp_model.specs.ReportFacts.{own_pattern}
use Rattle.pp_report.specs.Patterns.{report_finders}

module _ (finds : Finds) (l : Loaded) (report : Report) (filtering : Filtering) (v : Verdicts)
    (are : AreVerdictsOf finds filtering (own_pattern report) l v) where
  -- The verdicts of a report are what its finders find.
  pub report_holds : IsCompact l.profile → HoldsFilters l v filtering (report_finders finds l report filtering)
  report_holds compact = record {
    found = are.holds (option_map (finder_by l.profile) l.drop) (option_map (finder_by l.profile) l.keep)
        (same_judged l.profile l.drop compact l.drop_fits) (same_judged l.profile l.keep compact l.keep_fits);
    tagfocus = are.tagfocus;
    tagignore = are.tagignore;
  }

  -- The samples can be counted by them.
  pub can_count : (column : Option ℕ) → IsCountable l.profile → IsColumnOf l.profile column → CanCount l.profile v filtering column
  can_count column countable below = record {
    countable = countable;
    column = below;
    verdicts = are.fits;
    focus = are.focus_tags;
    ignore = are.ignore_tags;
  }
