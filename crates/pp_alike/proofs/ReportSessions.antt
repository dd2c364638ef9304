-- How a session ends that loads a profile and makes a report of it, where the matcher refuses no pattern.
use Rattle.std.proofs.Common.{◌≡◌, ℕ, Bool, true, false, List, [], ◌∷◌, ◌++◌, length, refl, sym, ap, subst, ◌∙◌}
use Rattle.std.proofs.Math.Seq.{drop-nil}
use Rattle.std.specs.Prelude.{Option, Some, Result, Ok, Err, if◌then◌else◌}
use Rattle.std.proofs.lemmas.Bool.{false≢true}
use Rattle.std.proofs.lemmas.List.Concat.{flat_map-append}
use Rattle.pp_base.specs.FileMap.{FileMap, content_at, with_file, among}
use Rattle.pp_base.specs.Judges.{Answer}
use Rattle.pp_desk.specs.declared.input_line.InputLine.{InputLine}
use Rattle.pp_desk.specs.Course.{Course, course, does, asks}
use Rattle.pp_desk.specs.Effects.{Effect, ToOut, ToErr, ToFile, FromFile, out_of, err_of, outs, errs, files_after}
use Rattle.pp_desk.specs.Lines.{next_of, after_next}
use Rattle.pp_desk.specs.Script.{Script, Give, Make, WriteOut, WriteErr, ReadFile, WriteFile, Ask, NextLine, ◌>>=◌}
use Rattle.pp_desk.specs.Went.{content_within}
use Rattle.pp_desk.proofs.Closing.{files_after-append}
use Rattle.pp_desk.proofs.Quiet.{Only}
use Rattle.pp_model.specs.declared.loaded.Loaded.{Loaded}
use Rattle.pp_model.specs.declared.report.Report.{Report}
use Rattle.pp_load.specs.declared.refusal.LoadRefusal.{LoadRefusal}
use Rattle.pp_load.specs.Load.{load}
use Rattle.pp_options.specs.declared.plan.Plan.{Plan}
use Rattle.pp_pattern.specs.Report.{Finds}
use Rattle.pp_report.specs.declared.refusal.ReportRefusal.{ReportRefusal}
use Rattle.pp_report.specs.Messages.{report_refusal_line}
use Rattle.pp_report.specs.Reports.{Reported, reported_with, report_script}
use Rattle.pp_saved.specs.SavedBytes.{AllTaken}
use Rattle.pp_saved.proofs.Taken.{GivesTaken, taken_course}
use Rattle.pp_engine.specs.declared.ending.Cause.{Cause}
use Rattle.pp_engine.specs.declared.ending.Cause.TheVariants as causes
use Rattle.pp_engine.specs.Reporting.{Tells, noted_report, end_with, end_report, report_once}
use Rattle.pp_alike.specs.SavedFiles.{SessionOf, course_in, loading_in}
use Rattle.pp_engine.specs.Session.{serve, serve_loaded, perform}
use Rattle.pp_engine.proofs.Courses.{AreReads, only_looks, joined, course_both, only_reads, outs_more, errs_more, files_more}
use Rattle.pp_engine.proofs.LoadQuiet.{load_looks, load_writes_nothing}
use Rattle.pp_engine.proofs.Performing.{plan_performed}
use Rattle.pp_engine.proofs.Telling.{tells_report}
use Rattle.pp_engine.proofs.ValidEnds.{noted_looks}

-- ---- what a course doesn't depend on

-- answers of which each is yes are as none
pub taken_same : {T : Type 0} (p : Script T) (files : FileMap) (locked : List (List ℕ)) (lines : List InputLine) (answers : List Answer) → AllTaken answers
    → course p files locked lines answers ≡ course p files locked lines []
taken_same (Give x) files locked lines answers taken = refl
taken_same (Make (WriteOut bytes) p) files locked lines answers taken = ap (does (ToOut bytes)) (taken_same (p tt) files locked lines answers taken)
taken_same (Make (WriteErr bytes) p) files locked lines answers taken = ap (does (ToErr bytes)) (taken_same (p tt) files locked lines answers taken)
taken_same (Make (ReadFile path limit) p) files locked lines answers taken =
    ap (does (FromFile path)) (taken_same (p (content_within limit (content_at files path))) files locked lines answers taken)
taken_same (Make (WriteFile path bytes) p) files locked lines answers taken = λ i.
    if among locked path then taken_same (p false) files locked lines answers taken i
    else does (ToFile path bytes) (taken_same (p true) (with_file files path bytes) locked lines answers taken i)
taken_same (Make (Ask pattern) p) files locked lines [] taken = refl
taken_same (Make (Ask pattern) p) files locked lines (answer ∷ answers) taken =
    ap (asks pattern) (ap (λ (yes : Bool). course (p yes) files locked lines answers) taken.0 ∙ taken_same (p true) files locked lines answers taken.1)
taken_same (Make NextLine p) files locked lines answers taken = taken_same (p (next_of lines)) files locked (after_next lines) answers taken

-- where nothing is written to a file and no line is read, it doesn't matter which paths are locked and which lines there are
pub looks_same : {T : Type 0} (p : Script T) (files : FileMap) (locked others : List (List ℕ)) (lines more : List InputLine) → Only only_looks p
    → course p files locked lines [] ≡ course p files others more []
looks_same (Give x) files locked others lines more o = refl
looks_same (Make (WriteOut bytes) p) files locked others lines more o = ap (does (ToOut bytes)) (looks_same (p tt) files locked others lines more (o.1 tt))
looks_same (Make (WriteErr bytes) p) files locked others lines more o = ap (does (ToErr bytes)) (looks_same (p tt) files locked others lines more (o.1 tt))
looks_same (Make (ReadFile path limit) p) files locked others lines more o =
    let found = content_within limit (content_at files path) in ap (does (FromFile path)) (looks_same (p found) files locked others lines more (o.1 found))
looks_same (Make (WriteFile path bytes) p) files locked others lines more o = absurd (false≢true o.0)
looks_same (Make (Ask pattern) p) files locked others lines more o = ap (asks pattern) (looks_same (p true) files locked others lines more (o.1 true))
looks_same (Make NextLine p) files locked others lines more o = absurd (false≢true o.0)

-- ---- the end of a session

-- what is done at the end of a report, and how the session ends
abbrev pub end_of : Report → Result (List ℕ) ReportRefusal → Course Cause
end_of report (Ok text) = record { effects = ToOut text ∷ []; value = causes.Done; asked = [] }
end_of report (Err refusal) =
    record { effects = ToErr (report_refusal_line report refusal) ∷ []; value = causes.Report refusal; asked = [] }

-- The session tells the notes, and ends with this outcome of the report.
pub record Ends (c : Course Cause) (report : Report) (notes : List ℕ) (outcome : Result (List ℕ) ReportRefusal) : Type 0 where
  pub out : outs c.effects ≡ outs (end_of report outcome).effects
  pub err : errs c.effects ≡ notes ++ errs (end_of report outcome).effects
  pub value : c.value ≡ (end_of report outcome).value
  pub no_file : (files : Option FileMap) → files_after files c.effects ≡ files

no_file_at_end : (report : Report) (outcome : Result (List ℕ) ReportRefusal) (files : Option FileMap) → files_after files (end_of report outcome).effects ≡ files
no_file_at_end report (Ok text) files = refl
no_file_at_end report (Err refusal) files = refl

ended : (report : Report) (outcome : Result (List ℕ) ReportRefusal) (files : FileMap) (locked : List (List ℕ)) (lines : List InputLine)
    → course (end_report report outcome) files locked lines [] ≡ end_of report outcome
unfolding end_report end_with ◌>>=◌
ended report (Ok text) files locked lines = refl
ended report (Err refusal) files locked lines = refl

module _ (finds : Finds) {plan : Plan} (report : Report) (named : plan.report ≡ Some report) (s : SessionOf plan) (l : Loaded) (loaded : (loading_in finds s).value ≡ Ok l) where
  -- loading, the report with its notes, and both as scripts
  abbrev loading : Course (Result Loaded LoadRefusal)
  loading = course (load finds plan) s.files s.locked s.lines []

  abbrev noted : Course (Result (List ℕ) ReportRefusal)
  noted = course (noted_report finds l plan.base_kind report plan.config) s.files s.locked s.lines []

  abbrev over : {T : Type 0} → Script T → Course T
  over script = course script s.files s.locked s.lines []

  loaded_is : loading.value ≡ Ok l
  loaded_is = ap (λ (c : Course (Result Loaded LoadRefusal)). c.value) (sym (taken_same (load finds plan) s.files s.locked s.lines s.answers s.taken)) ∙ loaded

  served : over (serve_loaded finds plan (Ok l)) ≡ over (report_once finds l plan.base_kind report plan.config)
  unfolding serve_loaded serve
  served = ap (λ (o : Option Report). over (serve finds plan.base_kind plan.config o l)) named

  reported : over (report_once finds l plan.base_kind report plan.config) ≡ joined noted (end_of report noted.value)
  unfolding report_once
  reported =
      course_both (noted_report finds l plan.base_kind report plan.config) (end_report report) s.files s.locked s.lines [] (noted_looks finds s.files s.locked s.lines l plan.base_kind report plan.config)
      ∙ ap (λ (answers : List Answer). joined noted (course (end_report report noted.value) s.files s.locked s.lines answers)) (drop-nil (length noted.asked))
      ∙ ap (joined noted) (ended report noted.value s.files s.locked s.lines)

  whole : course_in finds s ≡ joined loading (joined noted (end_of report noted.value))
  unfolding perform
  whole =
      ap (λ (script : Script Cause). course script s.files s.locked s.lines s.answers) (plan_performed finds s.words plan s.performs)
      ∙ taken_same (perform finds plan) s.files s.locked s.lines s.answers s.taken
      ∙ course_both (load finds plan) (serve_loaded finds plan) s.files s.locked s.lines [] (load_looks finds plan)
      ∙ ap (λ (answers : List Answer). joined loading (course (serve_loaded finds plan loading.value) s.files s.locked s.lines answers)) (drop-nil (length loading.asked))
      ∙ ap (λ (known : Result Loaded LoadRefusal). joined loading (over (serve_loaded finds plan known))) loaded_is
      ∙ ap (joined loading) (served ∙ reported)

  module _ (notes : List ℕ) (outcome : Result (List ℕ) ReportRefusal) (gives : GivesTaken (report_script finds l plan.base_kind report plan.config) (reported_with notes outcome)) where
    tells : Tells noted (over (report_script finds l plan.base_kind report plan.config))
    tells = tells_report finds l plan.base_kind report plan.config s.files s.locked s.lines []

    made : (over (report_script finds l plan.base_kind report plan.config)).value ≡ reported_with notes outcome
    made = taken_course (report_script finds l plan.base_kind report plan.config) (reported_with notes outcome) s.files s.locked s.lines [] tt gives

    outcome_is : noted.value ≡ outcome
    outcome_is = tells.outcome ∙ ap (λ (r : Reported). r.outcome) made

    notes_are : errs noted.effects ≡ notes
    notes_are = tells.notes ∙ ap (λ (r : Reported). r.notes) made

    joined_ends : Ends (joined loading (joined noted (end_of report noted.value))) report notes outcome
    joined_ends =
        let reads : AreReads loading.effects = only_reads (load finds plan) s.files s.locked s.lines [] (load_writes_nothing finds plan) in
        let last : List Effect = (end_of report noted.value).effects in
        record {
          out = outs_more loading.effects (noted.effects ++ last) reads ∙ flat_map-append out_of noted.effects last
              ∙ (λ i. tells.no_text i ++ outs (end_of report (outcome_is i)).effects);
          err = errs_more loading.effects (noted.effects ++ last) reads ∙ flat_map-append err_of noted.effects last
              ∙ (λ i. notes_are i ++ errs (end_of report (outcome_is i)).effects);
          value = ap (λ (known : Result (List ℕ) ReportRefusal). (end_of report known).value) outcome_is;
          no_file = λ files. files_more files loading.effects (noted.effects ++ last) reads ∙ files_after-append files noted.effects last
              ∙ ap (λ (o : Option FileMap). files_after o last) (tells.no_file files) ∙ no_file_at_end report noted.value files;
        }

    -- So it ends.
    pub session_ends : Ends (course_in finds s) report notes outcome
    session_ends = subst (λ (c : Course Cause). Ends c report notes outcome) (sym whole) joined_ends
