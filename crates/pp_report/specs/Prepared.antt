-- What is settled before the text of a report is made: what it shows, what it asks for, and its notes.
use Rattle.std.specs.Prelude.{◌≡◌, ℕ, false, List, [], Option, Some, None, Result, Ok, Err, option_map, unwrap_or, if◌then◌else◌}
use Rattle.pp_base.specs.Front.{IsFront}
use Rattle.pp_desk.specs.declared.stop.Stop.{Stop}
use Rattle.pp_desk.specs.Asking.{Asking, ◌>>=◌, go_on}
use Rattle.pp_desk.specs.Script.{Give}
use Rattle.pp_model.specs.declared.config.Config.{Config}
use Rattle.pp_model.specs.declared.loaded.Loaded.{Loaded}
use Rattle.pp_model.specs.declared.profile.Profile.{Profile}
use Rattle.pp_model.specs.declared.report.Report.{Report}
use Rattle.pp_model.specs.declared.filtering.Filtering.{Filtering}
use Rattle.pp_model.specs.declared.presentation.Presentation.{Presentation}
use Rattle.pp_model.specs.ReportFacts.{shows_values, is_counted}
use Rattle.pp_pattern.specs.Report.{Finds}
use Rattle.pp_units.specs.Shown.{Shown, shown}
use Rattle.pp_count.specs.Column.{column_of}
use Rattle.pp_count.specs.Counted.{CanCount, IsCountedOf}
use Rattle.pp_count.specs.Seeing.{HoldsFilters}
use Rattle.pp_report.specs.declared.shows.Shows.{Shows}
use Rattle.pp_report.specs.declared.prepared.Counts.{Counts}
use Rattle.pp_report.specs.declared.prepared.Prepared.{Prepared}
use Rattle.pp_report.specs.declared.refusal.ReportRefusal.{ReportRefusal}
use Rattle.pp_report.specs.declared.refusal.ReportRefusal.TheVariants.{BadSampleIndex, UnitMismatch}
use Rattle.pp_report.specs.Heads.{wanted_unit, unit_text}
use Rattle.pp_report.specs.Notes.{notes_text}
use Rattle.pp_report.specs.Patterns.{report_finders, ask_patterns}
use Rattle.pp_report.specs.Tagged.{basis_of}

-- The column of values that a report shows, and the unit that is asked for.
pub record Showing : Type 0 where
  pub column : Option ℕ
  pub wanted : Option Shown

-- the column with the unit, if it is of the values' kind
abbrev pub in_unit : Option ℕ → Option (Option Shown) → Result Showing ReportRefusal
in_unit column None = Err UnitMismatch
in_unit column (Some wanted) = Ok (record { column = column; wanted = wanted })

-- what a report shows, if there is such a column
abbrev pub in_column : Profile → Presentation → Option (Option ℕ) → Result Showing ReportRefusal
in_column p presentation None = Err BadSampleIndex
in_column p presentation (Some column) =
    in_unit column (wanted_unit presentation.unit (unit_text p column))

-- What a report shows. One that shows no values has no column, and is not refused for it.
abbrev pub showing_for : Report → Profile → Presentation → Result Showing ReportRefusal
showing_for report p presentation =
    if shows_values report then in_column p presentation (column_of p presentation.sample_index)
    else Ok (record { column = None; wanted = None })

-- What a report shows, and its notes.
pub record Settled : Type 0 where
  pub showing : Showing
  pub notes : List ℕ

-- the notes of a report that is made of the profile
abbrev pub notes_of : Finds → Loaded → Report → Filtering → List ℕ
notes_of finds l report filtering =
    notes_text l.profile (report_finders finds l report filtering) filtering

-- what is settled of a report that shows this, once its patterns are known
abbrev pub settled_of : Finds → Loaded → Report → Filtering → Showing → Settled
settled_of finds l report filtering showing =
    record { showing = showing; notes = notes_of finds l report filtering }

-- Asks for the patterns of a report that shows this.
unfoldable pub prepare_counts : Finds → Loaded → Report → Filtering → Showing
    → Asking ReportRefusal Settled
prepare_counts finds l report filtering showing = do
  _ ← ask_patterns finds l report filtering
  Give (Ok (settled_of finds l report filtering showing))

-- What asking comes to where the report is counted. One that isn't asks for none and has no notes.
unfoldable pub prepare_showing : Finds → Loaded → Report → Filtering → Showing
    → Asking ReportRefusal Settled
prepare_showing finds l report filtering showing =
    if is_counted report then prepare_counts finds l report filtering showing
    else Give (Ok (record { showing = showing; notes = [] }))

-- What is done before the text of a report is made that is made of this profile. No pattern is asked of one that is
-- refused for its column or its unit.
unfoldable pub prepare_on : Finds → Loaded → Report → Config → Asking ReportRefusal Settled
prepare_on finds l report config =
    go_on (prepare_showing finds l report config.filtering)
    (showing_for report l.profile config.presentation)

-- What asking comes to for a report of the loaded profile, which may first get frames from labels.
abbrev pub prepare : Finds → Loaded → Report → Config → Asking ReportRefusal Settled
prepare finds l report config =
    prepare_on finds (basis_of report l config.presentation) report config

-- what `Shows` says
abbrev pub showing : Shows → Showing
showing shows = record { column = shows.column; wanted = option_map shown shows.unit }

-- what `Prepared` says
abbrev pub settled_by : Prepared → Settled
settled_by prepared = record { showing = showing prepared.shows; notes = prepared.notes }

-- the answer of `prepare` as its script has it
abbrev pub answered : Result (Result Prepared ReportRefusal) Stop → Result (Result Settled ReportRefusal) Stop
answered (Ok (Ok prepared)) = Ok (Ok (settled_by prepared))
answered (Ok (Err refusal)) = Ok (Err refusal)
answered (Err stop) = Err stop

-- the answer of counting, as the script of a report that shows this has it
abbrev pub counts_settled : Showing → Result (Result (Counts × List ℕ) ReportRefusal) Stop
    → Result (Result Settled ReportRefusal) Stop
counts_settled showing (Ok (Ok made)) = Ok (Ok (record { showing = showing; notes = made.1 }))
counts_settled showing (Ok (Err refusal)) = Ok (Err refusal)
counts_settled showing (Err stop) = Err stop

-- The verdicts are those of the report's patterns, and the samples are counted by them.
pub record AreCounts (finds : Finds) (l : Loaded) (report : Report) (config : Config) (shown_column : Option ℕ)
    (counts : Counts) : Type 0 where
  pub holds : HoldsFilters l counts.verdicts config.filtering
      (report_finders finds l report config.filtering)
  pub can : CanCount l.profile counts.verdicts config.filtering shown_column
  pub are : IsCountedOf l counts.verdicts config shown_column counts.counted

-- there are counts where the report is counted
abbrev pub HasCounts : Finds → Loaded → Report → Config → Option ℕ → Option Counts → Type 0
HasCounts finds l report config column None = is_counted report ≡ false
HasCounts finds l report config column (Some counts) = AreCounts finds l report config column counts

-- All is settled for the text of the report that is made of this profile.
pub record IsPreparedOn (finds : Finds) (l : Loaded) (report : Report) (config : Config) (prepared : Prepared)
    : Type 0 where
  pub shows_what : showing_for report l.profile config.presentation ≡ Ok (showing prepared.shows)
  pub has_counts : HasCounts finds l report config prepared.shows.column prepared.counts
  pub notes_front : IsFront prepared.notes (notes_of finds l report config.filtering)

-- What was prepared is so over the loaded profile.
pub record IsPrepared (finds : Finds) (l : Loaded) (report : Report) (config : Config) (prepared : Prepared)
    : Type 0 where
  pub basis : unwrap_or prepared.tagged l ≡ basis_of report l config.presentation
  pub settled : IsPreparedOn finds (basis_of report l config.presentation) report config prepared

-- These are the counts of a report that is made of the profile, and its notes. No public clause cites it.
pub record AreCountsNoted (finds : Finds) (l : Loaded) (report : Report) (config : Config) (shown_column : Option ℕ)
    (made : Counts × List ℕ) : Type 0 where
  pub counts : AreCounts finds l report config shown_column made.0
  pub notes : made.1 ≡ notes_of finds l report config.filtering
