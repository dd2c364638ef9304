-- Sessions over a file that a session saved: it is reported as the filters by which it was saved report its sources,
-- and saved again as it is.
use Rattle.std.specs.Prelude.{◌≡◌, ◌≢◌, ◌≤◌, ◌≤ℤ◌, ◌++◌, ℕ, pos, true, false, All, List, length, Option, Some}
use Rattle.std.specs.Prelude.{Result, Ok}
use Rattle.std.specs.List.{list_any}
use Rattle.pp_base.specs.FileMap.{FileMap, content_at, among}
use Rattle.pp_base.specs.Judges.{Answer}
use Rattle.pp_desk.specs.declared.input_line.InputLine.{InputLine}
use Rattle.pp_desk.specs.Course.{Course, course}
use Rattle.pp_desk.specs.Effects.{outs, errs, reads_of, files_after}
use Rattle.pp_model.specs.declared.loaded.Loaded.{Loaded}
use Rattle.pp_model.specs.declared.profile.Profile.{Profile}
use Rattle.pp_model.specs.declared.report.Report.{Report}
use Rattle.pp_model.specs.declared.report.Report.TheVariants as reports
use Rattle.pp_model.specs.Defaults.{standard_filtering}
use Rattle.pp_count.specs.Counts.{is_base}
use Rattle.pp_load.specs.declared.refusal.LoadRefusal.{LoadRefusal}
use Rattle.pp_load.specs.Alone.{HasOneFile}
use Rattle.pp_load.specs.Load.{load}
use Rattle.pp_load.specs.Reads.{size_limit}
use Rattle.pp_options.specs.declared.plan.Plan.{Plan}
use Rattle.pp_pattern.specs.Report.{Finds}
use Rattle.pp_saved.specs.Premises.{HasFiltersOf, CountsFiltered, unfiltered}
use Rattle.pp_saved.specs.SavedReports.{IsPlain, NamesNoKey}
use Rattle.pp_saved.specs.SavedBytes.{AllTaken}
use Rattle.pp_saved.specs.StaysSaved.{stays_saved}
use Rattle.pp_engine.specs.declared.ending.Cause.{Cause}
use Rattle.pp_engine.specs.declared.ending.Cause.TheVariants as causes
use Rattle.pp_engine.specs.Session.{session}
use Rattle.pp_engine.specs.Words.{performed}

-- A session that performs the plan: its words, and what it meets. The matcher refuses no pattern.
pub record SessionOf (plan : Plan) : Type 0 where
  pub words : List (List ℕ)
  pub files : FileMap
  pub locked : List (List ℕ)
  -- of standard input
  pub lines : List InputLine
  pub answers : List Answer
  pub performs : performed words ≡ Some plan
  pub taken : AllTaken answers

-- what is done in it, and how it ends
abbrev pub course_in : {plan : Plan} → Finds → SessionOf plan → Course Cause
course_in finds s = course (session finds s.words) s.files s.locked s.lines s.answers

-- the part of it that loads
abbrev pub loading_in : {plan : Plan} → Finds → SessionOf plan → Course (Result Loaded LoadRefusal)
loading_in {plan} finds s = course (load finds plan) s.files s.locked s.lines s.answers

-- The other plan has the sources and the bases of this one, and combines them likewise.
pub record HasSourcesOf (plan other : Plan) : Type 0 where
  pub origins : other.origins ≡ plan.origins
  pub bases : other.bases ≡ plan.bases
  pub base_kind : other.base_kind ≡ plan.base_kind
  pub normalize : other.normalize ≡ plan.normalize

-- The first plan saves what its filters leave of some sources. The second makes a report of the file of this path,
-- without filters. The third makes that report of the sources, by the filters of the first and else by the variables of
-- the second.
pub record PassOn (saving reading filtering : Plan) (report : Report) (path : List ℕ) : Type 0 where
  pub saves : saving.report ≡ Some reports.Proto
  pub reads : reading.report ≡ Some report
  pub filters : filtering.report ≡ Some report
  pub file : HasOneFile reading path
  pub sources : HasSourcesOf saving filtering
  pub same_filters : HasFiltersOf saving.config filtering.config
  pub no_filters : reading.config ≡ unfiltered filtering.config

-- The report stays when its profile is saved; Total is that of the filtered samples, values are not divided, the tree
-- is by keys, and no frames are made from labels.
pub record ReportsStaying (saving filtering : Plan) (report : Report) : Type 0 where
  pub stays : stays_saved report ≡ true
  pub counts : CountsFiltered filtering.config.presentation
  pub plain : IsPlain filtering.config.presentation
  pub keyless : NamesNoKey saving.config.presentation

-- No value of the profile is below 0, and no sample is of a base.
pub record IsOfSources (p : Profile) : Type 0 where
  pub least : All (λ s. All (λ v. pos 0 ≤ℤ v) s.value) p.sample
  pub plain : list_any (is_base p) p.sample ≡ false

-- At the path stand these bytes, which are no more than a file may have.
pub record StandAt (path bytes : List ℕ) (files : FileMap) : Type 0 where
  pub there : content_at files path ≡ Some bytes
  pub short : length bytes ≤ size_limit

-- The files are the same but at this path, which is not among those that were read.
pub record AreSameBut (path : List ℕ) (files other : FileMap) (read : List (List ℕ)) : Type 0 where
  pub elsewhere : (at : List ℕ) → at ≢ path → content_at files at ≡ content_at other at
  pub unread : among read path ≡ false

-- Both sessions print the same on standard output and end alike, and neither writes a file. The second tells the same
-- on standard error, behind notes on filters that match nothing.
pub record SessionsPrintAlike (c d : Course Cause) : Type 0 where
  pub out : outs c.effects ≡ outs d.effects
  pub ending : c.value ≡ d.value
  pub notes : List ℕ
  pub err : notes ++ errs c.effects ≡ errs d.effects
  pub no_file : (files : Option FileMap) → files_after files c.effects ≡ files
  pub no_file_there : (files : Option FileMap) → files_after files d.effects ≡ files

-- What the first session prints is a file that the second reports as the third does its sources. The first ends done.
pub record ReportedAlike (c d e : Course Cause) : Type 0 where
  pub saved : c.value ≡ causes.Done
  pub alike : SessionsPrintAlike d e

-- So it is where the first session loads a profile of which no value is below 0 and no sample is of a base.
abbrev pub SavedFilesReportAlike : Type 0
SavedFilesReportAlike =
    (finds : Finds) (saving reading filtering : Plan) (report : Report) (path : List ℕ) (l : Loaded)
    → PassOn saving reading filtering report path → ReportsStaying saving filtering report
    → (first : SessionOf saving) (second : SessionOf reading) (third : SessionOf filtering)
    → (loading_in finds first).value ≡ Ok l → IsOfSources l.profile
    → StandAt path (outs (course_in finds first).effects) second.files
    → AreSameBut path first.files third.files (reads_of (loading_in finds first).effects)
    → ReportedAlike (course_in finds first) (course_in finds second) (course_in finds third)

-- The first plan saves what filters leave of some sources. The second saves the file of this path again, without
-- filters. No frames are made from labels.
pub record SaveAgain (saving again : Plan) (path : List ℕ) : Type 0 where
  pub saves : saving.report ≡ Some reports.Proto
  pub saves_again : again.report ≡ Some reports.Proto
  pub file : HasOneFile again path
  pub no_filters : again.config.filtering ≡ standard_filtering
  pub keyless : NamesNoKey saving.config.presentation
  pub keyless_again : NamesNoKey again.config.presentation

-- Both sessions print the same, and end done.
pub record SavedAlike (c d : Course Cause) : Type 0 where
  pub out : outs d.effects ≡ outs c.effects
  pub done : c.value ≡ causes.Done
  pub done_again : d.value ≡ causes.Done

-- What the first session prints, as a file, the second prints again. No value of the profile matters.
abbrev pub SavedFilesSaveAlike : Type 0
SavedFilesSaveAlike =
    (finds : Finds) (saving again : Plan) (path : List ℕ) (l : Loaded)
    → SaveAgain saving again path
    → (first : SessionOf saving) (second : SessionOf again)
    → (loading_in finds first).value ≡ Ok l
    → StandAt path (outs (course_in finds first).effects) second.files
    → SavedAlike (course_in finds first) (course_in finds second)
