-- The facts in which reports differ. Each report has a line.
use Rattle.std.specs.Prelude.{ℕ, Bool, true, false, List, [], Option, Some, None, codes}
use Rattle.pp_model.specs.declared.report.Report.{Report}
use Rattle.pp_model.specs.declared.report.Report.TheVariants as reports
use Rattle.pp_model.specs.declared.verdicts.Slot.{Slot}
use Rattle.pp_model.specs.declared.verdicts.Slot.TheVariants as slots

-- What is known of a report.
pub record ReportFacts : Type 0 where
  -- the option whose value is its own pattern, empty where it has none
  pub own_option : List ℕ
  -- the pattern that it has of its own
  pub own_pattern : Option (List ℕ)
  -- it shows a column of values, which it is refused without
  pub shows_values : Bool
  -- its patterns are asked, and its samples counted
  pub is_counted : Bool
  -- the shell shows few rows of it, where nothing else is said
  pub is_short : Bool
  -- it is of labels, so that patterns behind its command filter labels
  pub is_of_labels : Bool
  -- it reads nothing but figures
  pub reads_figures : Bool

-- what is known of most reports
abbrev pub usual : ReportFacts
usual = record {
  own_option = [];
  own_pattern = None;
  shows_values = true;
  is_counted = true;
  is_short = false;
  is_of_labels = false;
  reads_figures = false;
}

-- what is known of the report
abbrev pub facts_of : Report → ReportFacts
facts_of reports.Top = record usual { is_short = true; reads_figures = true }
facts_of reports.Tree = record usual { reads_figures = true }
facts_of (reports.Peek pattern) =
    record usual { own_option = codes "peek"; own_pattern = Some pattern; reads_figures = true }
facts_of reports.Traces = usual
facts_of reports.Tags = record usual { is_of_labels = true }
facts_of reports.Raw = record usual { shows_values = false }
facts_of reports.Comments = record usual { shows_values = false; is_counted = false }
facts_of reports.Proto = record usual { shows_values = false }
facts_of (reports.List pattern) =
    record usual { own_option = codes "list"; own_pattern = Some pattern }
facts_of reports.Folded = usual
facts_of reports.Table = usual
facts_of reports.Compare = record usual { is_short = true }
facts_of reports.Changes = usual
facts_of reports.Account = record usual { is_short = true }

-- the option whose value is its own pattern
abbrev pub own_option : Report → List ℕ
own_option report = (facts_of report).own_option

-- the pattern that it has of its own
abbrev pub own_pattern : Report → Option (List ℕ)
own_pattern report = (facts_of report).own_pattern

-- it shows a column of values
abbrev pub shows_values : Report → Bool
shows_values report = (facts_of report).shows_values

-- it is counted
abbrev pub is_counted : Report → Bool
is_counted report = (facts_of report).is_counted

-- it has few rows in the shell
abbrev pub is_short : Report → Bool
is_short report = (facts_of report).is_short

-- it is of labels
abbrev pub is_of_labels : Report → Bool
is_of_labels report = (facts_of report).is_of_labels

-- it reads nothing but figures
abbrev pub reads_figures : Report → Bool
reads_figures report = (facts_of report).reads_figures

-- the variable whose pattern stands in this place, empty where it is a report's own
abbrev pub variable_name : Slot → List ℕ
variable_name slots.Focus = codes "focus"
variable_name slots.Ignore = codes "ignore"
variable_name slots.Hide = codes "hide"
variable_name slots.Show = codes "show"
variable_name slots.ShowFrom = codes "show_from"
variable_name slots.TagFocus = codes "tagfocus"
variable_name slots.TagIgnore = codes "tagignore"
variable_name slots.PruneFrom = codes "prune_from"
variable_name slots.TagShow = codes "tagshow"
variable_name slots.TagHide = codes "taghide"
variable_name slots.Own = []

-- the option whose pattern stands in this place
unfoldable pub option_name : Report → Slot → List ℕ
option_name report slots.Own = own_option report
option_name report slot = variable_name slot
