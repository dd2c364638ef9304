-- Sessions over files that other sessions saved, each of a group of sources, go as a session over all sources.
use Rattle.std.proofs.Common.{◌≡◌, ℕ, ◌+◌, ◌<◌, ◌≤◌, ◌^◌, List, [], ◌∷◌, ◌++◌, length, map, refl, sym, ap, ◌∙◌, subst, arith, append-nil}
use Rattle.std.specs.Prelude.{Some, None, Option, Result, Ok}
use Rattle.std.specs.List.{AllByRecursion}
use Rattle.pp_base.proofs.Lists.{all_by}
use Rattle.pp_base.specs.FileMap.{FileMap}
use Rattle.pp_base.specs.Judges.{Answer}
use Rattle.pp_desk.specs.declared.input_line.InputLine.{InputLine}
use Rattle.pp_desk.specs.Course.{Course, course}
use Rattle.pp_desk.specs.Effects.{outs, errs, reads_of, files_after}
use Rattle.pp_desk.specs.Script.{Script}
use Rattle.pp_model.specs.declared.loaded.Loaded.{Loaded}
use Rattle.pp_model.specs.declared.profile.Profile.{Profile}
use Rattle.pp_model.specs.declared.report.BaseKind.{BaseKind}
use Rattle.pp_model.specs.declared.report.Report.TheVariants as reports
use Rattle.pp_model.specs.Judged.{loaded_of}
use Rattle.pp_model.specs.Lookup.{text_of}
use Rattle.pp_model.specs.Rules.{NoRuleFails}
use Rattle.pp_share.proofs.NumberedLemmas.{all_both, all_mapped, all_parts}
use Rattle.pp_tables.specs.Encode.{encode}
use Rattle.pp_tables.specs.Fits.{ProfileFits}
use Rattle.pp_merge.proofs.NormalizingLemmas.{wide_samples}
use Rattle.pp_merge.proofs.SettledLemmas.{all_flat}
use Rattle.pp_steps.specs.Premises.{GroupHasValues, GroupsAddUp, MergeInSteps}
use Rattle.pp_steps.specs.Refused.{IsMergeable, group_of_merges}
use Rattle.pp_steps.specs.Steps.{Group, all_sources, at_once, in_steps, merged_group, sources_of}
use Rattle.pp_steps.proofs.Admitted.{groups_can, merges_can}
use Rattle.pp_steps.proofs.SteppedMerges.{steps_are_one}
use Rattle.pp_load.specs.declared.refusal.LoadRefusal.{LoadRefusal}
use Rattle.pp_load.specs.Decode.{decoded}
use Rattle.pp_load.specs.Load.{load}
use Rattle.pp_load.specs.Reads.{size_limit}
use Rattle.pp_load.specs.Joining.{HasStarts, kinds}
use Rattle.pp_load.proofs.CountLemmas.{as_many}
use Rattle.pp_load.proofs.DecodeLemmas.{written_loaded}
use Rattle.pp_load.proofs.KindLemmas.{all_of_kinds}
use Rattle.pp_options.specs.declared.plan.Plan.{Plan}
use Rattle.pp_pattern.specs.Report.{Finds}
use Rattle.pp_saved.proofs.SavedWhole.{saved_whole}
use Rattle.pp_report.specs.Patterns.{report_finders}
use Rattle.pp_saved.specs.SavedReports.{saved_by}
use Rattle.pp_saved.proofs.SavedBytes.{proto_taken}
use Rattle.pp_engine.specs.declared.ending.Cause.{Cause}
use Rattle.pp_alike.specs.Alike.{after_loading}
use Rattle.pp_alike.specs.SavedFiles.{course_in, loading_in}
use Rattle.pp_alike.specs.SavedGroups.{AgreeAt, GoAlike, HasBytes, HasProfiles, PrintsMerge, SavedGroup, SavedGroupsAreMerges, SavedGroupsGoAsOne, SavedGroupsLoadAsOne, SavedInSteps, SavesWhole, groups_of, printed}
use Rattle.pp_engine.specs.Session.{perform, serve, serve_loaded, session}
use Rattle.pp_engine.specs.Words.{performed}
use Rattle.pp_engine.proofs.Courses.{course_both, errs_more, files_more, joined, outs_more, rest_of}
use Rattle.pp_engine.proofs.LoadQuiet.{load_looks}
use Rattle.pp_alike.proofs.LoadedLemmas.{IsLoadable, loaded_is}
use Rattle.pp_engine.proofs.Performing.{plan_performed}
use Rattle.pp_alike.proofs.ReportSessions.{Ends, session_ends}
use Rattle.pp_alike.proofs.SameReads.{same_reads}
use Rattle.pp_alike.proofs.SavedFits.{saved_fits}
use Rattle.pp_alike.proofs.SourcesLoaded.{drop_kept, keep_kept, kindless, loaded_course, mappings_start, reads_for, size_after, size_within, sources_load, sources_start, sources_valid, they_are_reads}

-- ---- what the session of a group prints

module _ (finds : Finds) (g : SavedGroup) (saves : SavesWhole g) (can : IsMergeable g.sources) where
  -- the group's merge, and what is saved of it
  abbrev q : Profile
  q = merged_group g.sources

  abbrev l : Loaded
  l = loaded_of q None None

  abbrev saved : Profile
  saved = saved_by finds l g.plan.config.filtering

  -- it has no patterns of its own
  no_drop : text_of q q.drop_frames ≡ []
  no_drop = drop_kept g.sources.first g.sources.others ∙ saves.no_drop

  no_keep : text_of q q.keep_frames ≡ []
  no_keep = keep_kept g.sources.first g.sources.others ∙ saves.no_keep

  loaded : (loading_in finds g.session).value ≡ Ok l
  loaded =
      ap (λ (x : Course (Result Loaded LoadRefusal)). x.value)
      (sources_load finds g.plan g.session.files g.sources.first g.sources.others saves.has can.agree can.sums saves.no_drop saves.no_keep g.session.locked g.session.lines g.session.answers)

  known : IsLoadable q
  known = loaded_is finds g.plan g.session.files g.session.locked g.session.lines g.session.answers l loaded

  same : saved ≡ q
  same = ap (saved_by finds l) saves.no_filters ∙ saved_whole q (record { valid = known.valid; settled = known.alone; drop = no_drop; keep = no_keep })

  ends : (notes : List ℕ) × Ends (course_in finds g.session) reports.Proto notes (Ok (encode saved))
  ends =
      let gives = proto_taken finds l g.plan.base_kind g.plan.config saves.keyless in
      (gives.0, session_ends finds reports.Proto saves.saves g.session l loaded gives.0 (Ok (encode saved)) gives.1)

  -- the bytes of the merge
  printed_is : printed finds g ≡ encode q
  printed_is = ends.1.out ∙ append-nil (encode saved) ∙ ap encode same

  fits : length (encode q) < 2 ^ 32 → ProfileFits q
  fits small =
      subst ProfileFits same
      (saved_fits q known.fits (report_finders finds l reports.Proto g.plan.config.filtering) g.plan.config.filtering known.valid known.countable (subst (λ (p : Profile). length (encode p) < 2 ^ 32) (sym same) small) known.alone)

  prints_merge : PrintsMerge finds g
  prints_merge = record {
    done = ends.1.value;
    decodes = λ source short.
        let within : length (printed finds g) ≤ size_limit = short in
        let few : length (encode q) ≤ size_limit = subst (λ (text : List ℕ). length text ≤ size_limit) printed_is within in
        let limit : size_limit ≡ 268435456 = refl in
        ap (decoded source) printed_is ∙ written_loaded source q known.valid (fits (omega (arith, few, limit))) (omega (arith, few, limit));
  }

pub saved_groups_are_merges : SavedGroupsAreMerges
saved_groups_are_merges finds g saves can = prints_merge finds g saves can

-- ---- all that the sessions print

-- each is decoded to its group's merge
all_decoded : (finds : Finds) (groups : List SavedGroup) (size : ℕ) → AllByRecursion SavesWhole groups → AllByRecursion IsMergeable (groups_of groups)
    → size_after size (map (printed finds) groups) ≤ size_limit → map (decoded 0) (map (printed finds) groups) ≡ map Ok (map merged_group (groups_of groups))
all_decoded finds [] size saves can short = refl
all_decoded finds (g ∷ groups) size saves can short =
    let behind : size_after (size + length (printed finds g)) (map (printed finds) groups) ≤ size_limit = short in
    let within : size + length (printed finds g) ≤ size_limit = omega (arith, behind, size_within (size + length (printed finds g)) (map (printed finds) groups)) in
    let first : decoded 0 (printed finds g) ≡ Ok (merged_group g.sources) = (prints_merge finds g saves.0 can.0).decodes 0 (omega (arith, within)) in
    let rest = all_decoded finds groups (size + length (printed finds g)) saves.1 can.1 behind in
    λ i. first i ∷ rest i

-- ---- groups that add up

-- what holds of the sources of each group
of_each : (P : Profile → Type 0) → ((plan : Plan) (files : FileMap) (ps : List Profile) → HasProfiles plan files ps → AllByRecursion P ps) → (groups : List SavedGroup) → AllByRecursion SavesWhole groups
    → AllByRecursion (λ x. AllByRecursion P (sources_of x)) (groups_of groups)
of_each P each groups saves =
    all_mapped (λ x. AllByRecursion P (sources_of x)) (λ g. g.sources) groups (all_by SavesWhole _ (λ g own. each g.plan g.session.files (sources_of g.sources) own.has) groups saves)

module _ (g : SavedGroup) (groups : List SavedGroup) (saved : SavedInSteps g groups) where
  abbrev columns : ℕ
  columns = length g.sources.first.sample_type

  -- the profiles agree
  of_kinds : AllByRecursion (λ x. AllByRecursion (λ q. kinds q ≡ kinds g.sources.first) (sources_of x)) (groups_of (g ∷ groups))
  of_kinds =
      all_parts (λ q. kinds q ≡ kinds g.sources.first) sources_of (groups_of (g ∷ groups))
      (all_of_kinds g.sources.first 1 (g.sources.others ++ all_sources (groups_of groups)) saved.mergeable.agree)

  -- each sample has a value for each of their types
  has_values : (x : Group) → AllByRecursion (λ q. kinds q ≡ kinds g.sources.first) (sources_of x) → AllByRecursion NoRuleFails (sources_of x) → GroupHasValues columns x
  has_values x alike valid = record {
    types = as_many x.first g.sources.first alike.0;
    values = all_by (λ q. (kinds q ≡ kinds g.sources.first) × NoRuleFails q) _
        (λ q own. subst (λ n. AllByRecursion (λ s. length s.value ≡ n) q.sample) (as_many q g.sources.first own.0) (wide_samples q own.1)) (sources_of x)
        (all_both (λ q. kinds q ≡ kinds g.sources.first) NoRuleFails (sources_of x) alike valid);
  }

  pub add_up : GroupsAddUp columns (groups_of (g ∷ groups))
  add_up = record {
    values = all_by _ (GroupHasValues columns) (λ x own. has_values x own.0 own.1) (groups_of (g ∷ groups))
        (all_both (λ x. AllByRecursion (λ q. kinds q ≡ kinds g.sources.first) (sources_of x)) (λ x. AllByRecursion NoRuleFails (sources_of x)) (groups_of (g ∷ groups)) of_kinds
        (of_each NoRuleFails sources_valid (g ∷ groups) saved.whole));
    starts = mappings_start (all_sources (groups_of (g ∷ groups))) (all_flat HasStarts sources_of (groups_of (g ∷ groups)) (of_each HasStarts sources_start (g ∷ groups) saved.whole));
  }

  pub merge_in_steps : MergeInSteps columns g.sources (groups_of groups)
  merge_in_steps = record { up = add_up; samples = saved.samples; durations = saved.durations; mappings = saved.mappings }

-- ---- what is loaded of all that is printed

module _ (finds : Finds) (g : SavedGroup) (groups : List SavedGroup) (saved : SavedInSteps g groups) where
  can_each : AllByRecursion IsMergeable (groups_of (g ∷ groups))
  can_each = groups_can (columns g groups saved) g.sources (groups_of groups) (add_up g groups saved) saved.mergeable

  can_merge : IsMergeable (group_of_merges g.sources (groups_of groups))
  can_merge = merges_can (columns g groups saved) g.sources (groups_of groups) (add_up g groups saved) saved.mergeable

  one_merge : in_steps g.sources (groups_of groups) ≡ at_once g.sources (groups_of groups)
  one_merge = steps_are_one (columns g groups saved) g.sources (groups_of groups) (add_up g groups saved) (merge_in_steps g groups saved)

  abbrev together : Loaded
  together = loaded_of (at_once g.sources (groups_of groups)) None None

  module _ (reading : Plan) (files : FileMap) (has : HasBytes reading files (map (printed finds) (g ∷ groups))) where
    merges_are : HasProfiles reading files (map merged_group (groups_of (g ∷ groups)))
    merges_are = record {
      bytes = map (printed finds) (g ∷ groups);
      has = has;
      are = all_decoded finds (g ∷ groups) 0 saved.whole can_each has.short;
    }

    steps_load : (locked : List (List ℕ)) (lines : List InputLine) (answers : List Answer) → course (load finds reading) files locked lines answers ≡ loaded_course reading.origins together
    steps_load locked lines answers =
        sources_load finds reading files (merged_group g.sources) (map merged_group (groups_of groups)) merges_are can_merge.agree can_merge.sums
        (no_drop finds g saved.whole.0 can_each.0) (no_keep finds g saved.whole.0 can_each.0) locked lines answers
        ∙ ap (λ (q : Profile). loaded_course reading.origins (loaded_of q None None)) one_merge

  all_load : (whole : Plan) (files : FileMap) → HasProfiles whole files (all_sources (groups_of (g ∷ groups))) → (locked : List (List ℕ)) (lines : List InputLine) (answers : List Answer)
      → course (load finds whole) files locked lines answers ≡ loaded_course whole.origins together
  all_load whole files have locked lines answers =
      sources_load finds whole files g.sources.first (g.sources.others ++ all_sources (groups_of groups)) have saved.mergeable.agree saved.mergeable.sums
      saved.whole.0.no_drop saved.whole.0.no_keep locked lines answers

pub saved_groups_load_as_one : SavedGroupsLoadAsOne
saved_groups_load_as_one finds g groups reading files locked lines answers saved has =
    ap (λ (x : Course (Result Loaded LoadRefusal)). x.value) (steps_load finds g groups saved reading files has locked lines answers)

-- ---- whole sessions

module _ (finds : Finds) (files : FileMap) (locked : List (List ℕ)) (lines : List InputLine) (answers : List Answer) (l : Loaded) where
  -- what is done after loading
  abbrev served : Option BaseKind → Plan → Course Cause
  served kind plan = course (serve finds kind plan.config plan.report l) files locked lines answers

  goes : (plan : Plan) (words : List (List ℕ)) → performed words ≡ Some plan → plan.bases ≡ [] → course (load finds plan) files locked lines answers ≡ loaded_course plan.origins l
      → course (session finds words) files locked lines answers ≡ joined (loaded_course plan.origins l) (served None plan)
  unfolding perform serve_loaded
  goes plan words is none loads =
      ap (λ (script : Script Cause). course script files locked lines answers) (plan_performed finds words plan is)
      ∙ course_both (load finds plan) (serve_loaded finds plan) files locked lines answers (load_looks finds plan)
      ∙ ap (λ (c : Course (Result Loaded LoadRefusal)). joined c (rest_of (serve_loaded finds plan) files locked lines answers c)) loads
      ∙ ap (λ (kind : Option BaseKind). joined (loaded_course plan.origins l) (served kind plan)) (kindless plan none)

-- courses that end alike, behind reads
alike_behind : (c d rest : Course Cause) (reading whole : Plan) (l : Loaded) → c ≡ joined (loaded_course reading.origins l) rest → d ≡ joined (loaded_course whole.origins l) rest → GoAlike c d
alike_behind c d rest reading whole l first second = record {
  out = ap (λ (x : Course Cause). outs x.effects) first ∙ outs_more (reads_for reading.origins ++ []) rest.effects (they_are_reads reading.origins)
      ∙ sym (outs_more (reads_for whole.origins ++ []) rest.effects (they_are_reads whole.origins)) ∙ sym (ap (λ (x : Course Cause). outs x.effects) second);
  err = ap (λ (x : Course Cause). errs x.effects) first ∙ errs_more (reads_for reading.origins ++ []) rest.effects (they_are_reads reading.origins)
      ∙ sym (errs_more (reads_for whole.origins ++ []) rest.effects (they_are_reads whole.origins)) ∙ sym (ap (λ (x : Course Cause). errs x.effects) second);
  written = λ files. ap (λ (x : Course Cause). files_after files x.effects) first ∙ files_more files (reads_for reading.origins ++ []) rest.effects (they_are_reads reading.origins)
      ∙ sym (files_more files (reads_for whole.origins ++ []) rest.effects (they_are_reads whole.origins)) ∙ sym (ap (λ (x : Course Cause). files_after files x.effects) second);
  asked = ap (λ (x : Course Cause). x.asked) first ∙ sym (ap (λ (x : Course Cause). x.asked) second);
  ending = ap (λ (x : Course Cause). x.value) first ∙ sym (ap (λ (x : Course Cause). x.value) second);
}

pub saved_groups_go_as_one : SavedGroupsGoAsOne
unfolding serve_loaded
saved_groups_go_as_one finds g groups reading whole words others files other locked lines answers saved ask is also has have agree =
    let l : Loaded = together finds g groups saved in
    let loads = steps_load finds g groups saved reading files has locked lines answers in
    let rest : Course Cause = served finds files locked lines answers l None reading in
    let behind : after_loading finds reading files locked lines answers ≡ rest =
    ap (λ (c : Course (Result Loaded LoadRefusal)). rest_of (serve_loaded finds reading) files locked lines answers c) loads
    ∙ ap (λ (kind : Option BaseKind). served finds files locked lines answers l kind reading) (kindless reading has.no_bases) in
    let there : rest ≡ served finds other locked lines answers l None reading =
    same_reads (serve finds None reading.config reading.report l) files other locked lines answers (subst (λ (c : Course Cause). AgreeAt (reads_of c.effects) files other) behind agree) in
    alike_behind _ _ rest reading whole l
    (goes finds files locked lines answers l reading words is has.no_bases loads)
    (goes finds other locked lines answers l whole others also have.has.no_bases (all_load finds g groups saved whole other have locked lines answers)
    ∙ (λ i. joined (loaded_course whole.origins l) (course (serve finds None (ask.config i) (ask.report i) l) other locked lines answers))
    ∙ ap (joined (loaded_course whole.origins l)) (sym there))
