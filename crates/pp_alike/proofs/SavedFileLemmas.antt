-- A saved file is reported as the filters by which it was saved report its sources, and saved again as it is.
use Rattle.std.proofs.Common.{◌≡◌, ℕ, ◌<◌, ◌≤◌, ◌^◌, false, List, [], ◌++◌, length, refl, sym, ap, ◌∙◌, subst, arith, append-nil}
use Rattle.std.specs.Prelude.{Some, None, Result, Ok}
use Rattle.std.specs.List.{AllByRecursion}
use Rattle.pp_base.proofs.Lists.{all_by}
use Rattle.pp_base.specs.FileMap.{among}
use Rattle.pp_desk.specs.Asking as asking
use Rattle.pp_desk.specs.Course.{Course, course}
use Rattle.pp_desk.specs.Effects.{outs, reads_of}
use Rattle.pp_desk.specs.Script.{Give}
use Rattle.pp_model.specs.declared.config.Config.{Config}
use Rattle.pp_model.specs.declared.loaded.Loaded.{Loaded}
use Rattle.pp_model.specs.declared.profile.Mapping.{Mapping}
use Rattle.pp_model.specs.declared.profile.Profile.{Profile}
use Rattle.pp_model.specs.declared.report.Report.{Report}
use Rattle.pp_model.specs.declared.report.Report.TheVariants as reports
use Rattle.pp_model.specs.Finders.{Finders}
use Rattle.pp_model.specs.Judged.{loaded_of}
use Rattle.pp_tables.specs.Encode.{encode}
use Rattle.pp_merge.proofs.AloneLemmas.{none_too_large}
use Rattle.pp_load.specs.declared.refusal.LoadRefusal.{LoadRefusal}
use Rattle.pp_load.specs.Alone.{HasOneFile, IsMergedAlone}
use Rattle.pp_load.specs.Combine.{combined}
use Rattle.pp_load.specs.Decode.{decoded}
use Rattle.pp_load.specs.Load.{read_all, read_base, read_next, read_plan, load}
use Rattle.pp_load.specs.Reads.{size_limit, with_verdicts}
use Rattle.pp_load.specs.Sources.{nothing_read}
use Rattle.pp_load.proofs.AloneLemmas.{settled_files_load}
use Rattle.pp_load.proofs.DecodeLemmas.{written_loaded}
use Rattle.pp_options.specs.declared.plan.Plan.{Plan}
use Rattle.pp_pattern.specs.Report.{Finds}
use Rattle.pp_report.specs.SavedText.{IsLasting}
use Rattle.pp_saved.specs.Premises.{CanSave, IsSource, unfiltered}
use Rattle.pp_saved.proofs.SavedAlike.{saved_lasts}
use Rattle.pp_saved.proofs.SavedWhole.{saved_whole}
use Rattle.pp_report.specs.Patterns.{report_finders}
use Rattle.pp_report.specs.Reports.{report_script, reported_with}
use Rattle.pp_saved.specs.SavedReports.{IsSavedOf, NamesNoKey, saved_by}
use Rattle.pp_saved.proofs.SavedBytes.{ComeToOne, both, can_save, proto_taken, saved_same}
use Rattle.pp_saved.proofs.Taken.{GivesTaken}
use Rattle.pp_alike.specs.SavedFiles.{SessionOf, course_in, loading_in, HasSourcesOf, PassOn, ReportsStaying, IsOfSources, StandAt, AreSameBut, ReportedAlike, SavedFilesReportAlike, SavedFilesSaveAlike}
use Rattle.pp_alike.proofs.AlikeLemmas.{course_apart}
use Rattle.pp_alike.proofs.LoadedLemmas.{IsLoadable, loaded_is}
use Rattle.pp_engine.proofs.LoadQuiet.{load_looks}
use Rattle.pp_alike.proofs.ReportSessions.{Ends, taken_same, looks_same, session_ends}
use Rattle.pp_alike.proofs.SavedFits.{saved_fits, saved_countable}
use Rattle.pp_alike.proofs.TellsFitting.{HasRange}

-- plans of the same sources load by the same steps
same_load : (finds : Finds) (plan other : Plan) → HasSourcesOf plan other → load finds other ≡ load finds plan
unfolding load read_plan
same_load finds plan other has = λ i.
    asking.◌>>=◌ (asking.◌>>=◌ (read_all read_next nothing_read (has.origins i)) (λ sources. read_all read_base sources (has.bases i)))
    (λ read. asking.◌>>=◌ (Give (combined (length (has.origins i)) (has.base_kind i) (has.normalize i) read.profiles)) (with_verdicts finds))

-- so they load the same profile
same_loading : (finds : Finds) (plan other : Plan) (path : List ℕ) (first : SessionOf plan) (third : SessionOf other) → HasSourcesOf plan other
    → AreSameBut path first.files third.files (reads_of (loading_in finds first).effects) → loading_in finds third ≡ loading_in finds first
same_loading finds plan other path first third has but =
    let alone : loading_in finds first ≡ course (load finds plan) first.files first.locked first.lines [] =
    taken_same (load finds plan) first.files first.locked first.lines first.answers first.taken in
    let unread : among (reads_of (course (load finds plan) first.files first.locked first.lines []).effects) path ≡ false =
    ap (λ (c : Course (Result Loaded LoadRefusal)). among (reads_of c.effects) path) (sym alone) ∙ but.unread in
    taken_same (load finds other) third.files third.locked third.lines third.answers third.taken
    ∙ ap (λ script. course script third.files third.locked third.lines []) (same_load finds plan other has)
    ∙ looks_same (load finds plan) third.files third.locked first.locked third.lines first.lines (load_looks finds plan)
    ∙ sym (course_apart path (load finds plan) first.files third.files first.locked first.lines [] but.elsewhere unread)
    ∙ sym alone

-- ---- a file that was saved, and a session that loads it

module _ (finds : Finds) {saving reading : Plan} (path : List ℕ) (l : Loaded) (saves : saving.report ≡ Some reports.Proto) (keyless : NamesNoKey saving.config.presentation) (file : HasOneFile reading path)
    (first : SessionOf saving) (second : SessionOf reading) (loaded : (loading_in finds first).value ≡ Ok l)
    (stand : StandAt path (outs (course_in finds first).effects) second.files) where
  abbrev f : Finders
  f = report_finders finds l reports.Proto saving.config.filtering

  -- what is saved
  abbrev q : Profile
  q = saved_by finds l saving.config.filtering

  known : IsLoadable l.profile
  known = loaded_is finds saving first.files first.locked first.lines first.answers l loaded

  starts : AllByRecursion (λ (m : Mapping). m.start < 2 ^ 64) l.profile.mapping
  starts = all_by HasRange (λ (m : Mapping). m.start < 2 ^ 64) (λ m range. range.0) l.profile.mapping known.fits.mappings

  lasts : IsLasting q
  lasts = saved_lasts l.profile f saving.config known.valid starts known.alone

  first_ends : (notes : List ℕ) × Ends (course_in finds first) reports.Proto notes (Ok (encode q))
  first_ends =
      let gives = proto_taken finds l saving.base_kind saving.config keyless in
      (gives.0, session_ends finds reports.Proto saves first l loaded gives.0 (Ok (encode q)) gives.1)

  text_is : outs (course_in finds first).effects ≡ encode q
  text_is = first_ends.1.out ∙ append-nil (encode q)

  short : length (encode q) ≤ size_limit
  short = subst (λ (text : List ℕ). length text ≤ size_limit) text_is stand.short

  small : length (encode q) < 2 ^ 32
  small = let limit : size_limit ≡ 268435456 = refl in omega (arith, short, limit)

  decoded_is : decoded 0 (encode q) ≡ Ok q
  decoded_is = written_loaded 0 q lasts.valid (saved_fits l.profile known.fits f saving.config.filtering known.valid known.countable small known.alone) (omega (arith, small))

  alone : IsMergedAlone q
  alone = record {
    alone = lasts.settled;
    small = none_too_large q (saved_countable l.profile known.fits f saving.config.filtering known.valid known.countable small);
    drop = lasts.drop;
    keep = lasts.keep;
  }

  second_loaded : (loading_in finds second).value ≡ Ok (loaded_of q None None)
  second_loaded =
      ap (λ (x : Course (Result Loaded LoadRefusal)). x.value)
      (settled_files_load finds reading path (encode q) q second.files second.locked second.lines second.answers file (stand.there ∙ ap Some text_is) short decoded_is alone)

-- ---- it is reported as its sources were

module _ (finds : Finds) (saving reading filtering : Plan) (report : Report) (path : List ℕ) (l : Loaded)
    (pass : PassOn saving reading filtering report path) (staying : ReportsStaying saving filtering report)
    (first : SessionOf saving) (second : SessionOf reading) (third : SessionOf filtering)
    (loaded : (loading_in finds first).value ≡ Ok l) (plain : IsOfSources l.profile)
    (stand : StandAt path (outs (course_in finds first).effects) second.files)
    (but : AreSameBut path first.files third.files (reads_of (loading_in finds first).effects)) where
  abbrev c : Config
  c = filtering.config

  abbrev r : Loaded
  r = loaded_of (saved_by finds l saving.config.filtering) None None

  own : IsLoadable l.profile
  own = loaded_is finds saving first.files first.locked first.lines first.answers l loaded

  source : IsSource l.profile
  source = record { settled = own.alone; least = plain.least; plain = plain.plain }

  can : CanSave l.profile c.presentation
  can = can_save l.profile c own.valid (starts finds path l pass.saves staying.keyless pass.file first second loaded stand) source staying.counts

  third_loaded : (loading_in finds third).value ≡ Ok l
  third_loaded = ap (λ (x : Course (Result Loaded LoadRefusal)). x.value) (same_loading finds saving filtering path first third pass.sources but) ∙ loaded

  saved_of : IsSavedOf finds l c.filtering r
  saved_of = record { profile = sym (saved_same finds l saving.config c pass.same_filters); drop = refl; keep = refl }

  one : ComeToOne (report_script finds r reading.base_kind report (unfiltered c)) (report_script finds l filtering.base_kind report c)
  one = both finds l r c can saved_of staying.plain report staying.stays filtering.base_kind reading.base_kind

  second_ends : Ends (course_in finds second) report [] one.outcome
  second_ends =
      session_ends finds report pass.reads second r (second_loaded finds path l pass.saves staying.keyless pass.file first second loaded stand) [] one.outcome
      (subst (λ (d : Config). GivesTaken (report_script finds r reading.base_kind report d) (reported_with [] one.outcome)) (sym pass.no_filters) one.silent)

  third_ends : Ends (course_in finds third) report one.notes one.outcome
  third_ends = session_ends finds report pass.filters third l third_loaded one.notes one.outcome one.noted

  reported_alike : ReportedAlike (course_in finds first) (course_in finds second) (course_in finds third)
  reported_alike = record {
    saved = (first_ends finds path l pass.saves staying.keyless pass.file first second loaded stand).1.value;
    alike = record {
      out = second_ends.out ∙ sym third_ends.out;
      ending = second_ends.value ∙ sym third_ends.value;
      notes = one.notes;
      err = ap (λ (line : List ℕ). one.notes ++ line) second_ends.err ∙ sym third_ends.err;
      no_file = second_ends.no_file;
      no_file_there = third_ends.no_file;
    };
  }

-- All of it.
pub saved_files_report_alike : SavedFilesReportAlike
saved_files_report_alike finds saving reading filtering report path l pass staying first second third loaded plain stand but =
    reported_alike finds saving reading filtering report path l pass staying first second third loaded plain stand but

-- ---- it is saved again as it is

pub saved_files_save_alike : SavedFilesSaveAlike
saved_files_save_alike finds saving again path l save first second loaded stand =
    let q : Profile = saved_by finds l saving.config.filtering in
    let r : Loaded = loaded_of q None None in
    let last : IsLasting q = lasts finds path l save.saves save.keyless save.file first second loaded stand in
    let same : saved_by finds r again.config.filtering ≡ q = ap (saved_by finds r) save.no_filters ∙ saved_whole q last in
    let gives = proto_taken finds r again.base_kind again.config save.keyless_again in
    let ends = session_ends finds reports.Proto save.saves_again second r (second_loaded finds path l save.saves save.keyless save.file first second loaded stand) gives.0 _ gives.1 in
    record {
      out = ends.out ∙ append-nil (encode (saved_by finds r again.config.filtering)) ∙ ap encode same ∙ sym (text_is finds path l save.saves save.keyless save.file first second loaded stand);
      done = (first_ends finds path l save.saves save.keyless save.file first second loaded stand).1.value;
      done_again = ends.value;
    }
