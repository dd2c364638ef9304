-- What a proto report writes loads as the profile that was saved, which reports as its filters did.
use Rattle.std.specs.Prelude.{◌≡◌, ℕ, ◌<◌, ◌≤◌, ◌-◌, ◌^◌, true, List, [], length, Option, Result, Ok}
use Rattle.std.specs.List.{AllByRecursion}
use Rattle.pp_base.specs.FileMap.{FileMap}
use Rattle.pp_base.specs.Judges.{Answer}
use Rattle.pp_desk.specs.Course.{course}
use Rattle.pp_model.specs.declared.config.Config.{Config}
use Rattle.pp_model.specs.declared.loaded.Loaded.{Loaded}
use Rattle.pp_model.specs.declared.report.BaseKind.{BaseKind}
use Rattle.pp_model.specs.declared.report.Report.{Report}
use Rattle.pp_model.specs.declared.report.Report.TheVariants as reports
use Rattle.pp_model.specs.Sizes.{IsCountable, absolute_sum}
use Rattle.pp_pattern.specs.Report.{Finds}
use Rattle.pp_tables.specs.Encode.{encode}
use Rattle.pp_tables.specs.Read.{read}
use Rattle.pp_report.specs.declared.refusal.ReportRefusal.{ReportRefusal}
use Rattle.pp_report.specs.Patterns.{report_finders}
use Rattle.pp_report.specs.Reports.{report_script}
use Rattle.pp_report.specs.SavedText.{IsLasting, IsProtoBy}
use Rattle.pp_report.specs.Tagged.{basis_of}
use Rattle.pp_saved.specs.Headed.{HeadedFigures, asked_figures}
use Rattle.pp_saved.specs.Premises.{HasFiltersOf, IsSource, CountsFiltered, unfiltered}
use Rattle.pp_saved.specs.SavedReports.{IsPlain, IsSavedOf, NamesNoKey, saved_by}
use Rattle.pp_saved.specs.StaysSaved.{stays_saved}

-- the figures of a report, None where it asks for a column that is no sample type
abbrev pub report_figures : Finds → Loaded → Report → Config → Option HeadedFigures
report_figures finds l report config =
    asked_figures l.profile (report_finders finds l report config.filtering) config

-- no pattern is refused
abbrev pub AllTaken : List Answer → Type 0
AllTaken answers = AllByRecursion (λ a. a.1 ≡ true) answers

-- What a report comes to over these files by these answers of the matcher: its text or a refusal. It writes no file and
-- reads no line.
abbrev pub outcome_over : Finds → Loaded → Option BaseKind → Report → Config → FileMap → List Answer
    → Result (List ℕ) ReportRefusal
outcome_over finds l base report config files answers =
    (course (report_script finds l base report config) files [] [] answers).value.outcome

-- Where the matcher refuses no pattern, the reports of r and of l under these configurations come to the same text or
-- the same refusal. That is so whatever bases were given.
abbrev pub ComesToSame : Finds → Loaded → Loaded → Report → Config → Config → Type 0
ComesToSame finds l r report config d =
    (base other : Option BaseKind) (files : FileMap) (answers others : List Answer)
    → AllTaken answers → AllTaken others
    → outcome_over finds r other report d files others ≡ outcome_over finds l base report config files answers

-- Under the configuration without its filters r reports what l does under the configuration with them.
pub record ReportsAlike (finds : Finds) (l r : Loaded) (c : Config) : Type 0 where
  pub figures : (report : Report)
      → report_figures finds r report (unfiltered c) ≡ report_figures finds l report c
  pub texts : (report : Report) → stays_saved report ≡ true
      → ComesToSame finds l r report c (unfiltered c)

-- The saved profile, once it is loaded, reports so for each configuration with the same filters. Total is that of the
-- filtered samples, values are not divided, the tree is by keys, and no frames are made from labels.
abbrev pub ReportsAsFiltered : Finds → Loaded → Config → Type 0
ReportsAsFiltered finds l config =
    (c : Config) → HasFiltersOf config c → CountsFiltered c.presentation → IsPlain c.presentation
    → (r : Loaded) → IsSavedOf finds l config.filtering r → ReportsAlike finds l r c

-- The text of a proto report.
pub record IsSavedText (finds : Finds) (l : Loaded) (config : Config) (text : List ℕ) : Type 0 where
  -- it is the canonical bytes of the saved profile, and is read as that profile
  pub bytes : text ≡ encode (saved_by finds l config.filtering)
  pub again : read text ≡ Ok (saved_by finds l config.filtering)
  -- no table rule fails in it, merged alone it stays as it is, and no frames are dropped or kept by patterns of its own
  pub lasts : IsLasting (saved_by finds l config.filtering)
  -- its columns can be added up, so that it is merged
  pub sums : (column : ℕ) → column < length l.profile.sample_type
      → absolute_sum (saved_by finds l config.filtering) column ≤ 2 ^ 63 - 1
  -- it reports as its filters did
  pub reports : IsSource l.profile → ReportsAsFiltered finds l config

-- So it is with each text that `pp_report::generate` gives for a proto report, by its clause `saved`, where no frames
-- are made from labels.
abbrev pub SavedBytes : Type 0
SavedBytes =
    (finds : Finds) (l : Loaded) (config : Config) (text : List ℕ)
    → IsCountable l.profile → NamesNoKey config.presentation
    → IsProtoBy finds (basis_of reports.Proto l config.presentation) config.filtering text
    → IsSavedText finds l config text
