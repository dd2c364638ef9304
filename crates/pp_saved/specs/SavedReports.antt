-- A saved profile reports as its filters did.
use Rattle.std.specs.Prelude.{◌≡◌, true, false, [], Option, None}
use Rattle.pp_model.specs.declared.config.Config.{Config}
use Rattle.pp_model.specs.declared.loaded.Loaded.{Loaded}
use Rattle.pp_model.specs.declared.profile.Profile.{Profile}
use Rattle.pp_model.specs.declared.report.BaseKind.{BaseKind}
use Rattle.pp_model.specs.declared.report.Report.{Report}
use Rattle.pp_model.specs.declared.report.Report.TheVariants as reports
use Rattle.pp_model.specs.declared.presentation.Presentation.{Presentation}
use Rattle.pp_model.specs.declared.filtering.Filtering.{Filtering}
use Rattle.pp_model.specs.Conditions.{IsColumnOf}
use Rattle.pp_pattern.specs.Report.{Finds}
use Rattle.pp_pseudo.specs.KeyList.{key_list}
use Rattle.pp_dump.specs.Saved.{saved}
use Rattle.pp_report.specs.Patterns.{report_finders}
use Rattle.pp_report.specs.Prepared.{Showing, showing_for}
use Rattle.pp_report.specs.Reports.{finish}
use Rattle.pp_saved.specs.Premises.{CanSave, unfiltered}
use Rattle.pp_saved.specs.StaysSaved.{stays_saved}

-- the profile that a proto report writes
abbrev pub saved_by : Finds → Loaded → Filtering → Profile
saved_by finds l filtering =
    saved l.profile (report_finders finds l reports.Proto filtering) filtering

-- The profile is what a proto report of the other one writes, loaded without any pattern of its own.
pub record IsSavedOf (finds : Finds) (l : Loaded) (filtering : Filtering) (r : Loaded) : Type 0 where
  pub profile : r.profile ≡ saved_by finds l filtering
  pub drop : r.drop ≡ None
  pub keep : r.keep ≡ None

-- No frames are made from labels.
pub record NamesNoKey (presentation : Presentation) : Type 0 where
  pub roots : key_list presentation.tagroot ≡ []
  pub leaves : key_list presentation.tagleaf ≡ []

-- The tree is by keys, and no frames are made from labels.
pub record IsPlain (presentation : Presentation) : Type 0 where
  pub path_tree : presentation.path_tree ≡ false
  pub keyless : NamesNoKey presentation

-- Under the second configuration the report of r shows what that of l shows under the first, or is refused likewise;
-- and it comes to the same text, or finds no function as well, whatever bases were given.
pub record ReportAlike (finds : Finds) (l r : Loaded) (report : Report) (config d : Config) : Type 0 where
  pub shows : showing_for report r.profile d.presentation
      ≡ showing_for report l.profile config.presentation
  pub comes_to : (showing : Showing) → IsColumnOf l.profile showing.column
      → (base other : Option BaseKind)
      → finish finds r other report d showing ≡ finish finds l base report config showing

-- So it is with each report that stays, of a profile and of what was saved of it. The filters of the configuration by
-- which it was saved are empty in the second one.
abbrev pub SavedReports : Type 0
SavedReports =
    (finds : Finds) (l r : Loaded) (report : Report) (config : Config)
    → stays_saved report ≡ true → CanSave l.profile config.presentation
    → IsPlain config.presentation
    → IsSavedOf finds l config.filtering r → ReportAlike finds l r report config (unfiltered config)
