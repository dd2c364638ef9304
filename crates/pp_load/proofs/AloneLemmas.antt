-- What a profile loads as that one file holds.
use Rattle.std.proofs.Common.{◌≡◌, ℕ, ◌+◌, ◌≤◌, ◌<◌, Bool, true, false, List, [], ◌∷◌, length, refl, sym, ap, ◌∙◌, arith, if◌then◌else◌}
use Rattle.std.specs.Prelude.{Option, Some, None, is_some, nat_lt, Result, Ok, Err}
use Rattle.std.proofs.lemmas.Bool.{le-ltb}
use Rattle.pp_base.specs.FileMap.{FileMap, content_at}
use Rattle.pp_base.specs.Judges.{Answer}
use Rattle.pp_desk.specs.declared.file_content.FileContent.{FileContent}
use Rattle.pp_desk.specs.declared.file_content.FileContent.TheVariants as contents
use Rattle.pp_desk.specs.declared.input_line.InputLine.{InputLine}
use Rattle.pp_desk.specs.Asking as asking
use Rattle.pp_desk.specs.Course.{Course, course, does}
use Rattle.pp_desk.specs.Effects.{FromFile}
use Rattle.pp_desk.specs.Script as scripts
use Rattle.pp_desk.specs.Script.{Give}
use Rattle.pp_desk.specs.Went.{content_within}
use Rattle.pp_model.specs.declared.loaded.Loaded.{Loaded}
use Rattle.pp_model.specs.declared.profile.Profile.{Profile}
use Rattle.pp_model.specs.declared.report.BaseKind.{BaseKind}
use Rattle.pp_model.specs.Judged.{loaded_of}
use Rattle.pp_merge.specs.Merge.{merged}
use Rattle.pp_options.specs.declared.origin.Origin.{Origin}
use Rattle.pp_options.specs.declared.origin.Origin.TheVariants.{Path}
use Rattle.pp_options.specs.declared.plan.Plan.{Plan}
use Rattle.pp_pattern.specs.declared.load.FramesRefused.{FramesRefused}
use Rattle.pp_pattern.specs.declared.load.FramesRefused.TheVariants as frames
use Rattle.pp_pattern.specs.Load.{whole_name, judge_load}
use Rattle.pp_pattern.specs.Patterns.{judge_option, finder_in_force}
use Rattle.pp_load.specs.declared.reading.Read.{Read}
use Rattle.pp_load.specs.declared.refusal.LoadRefusal.{LoadRefusal}
use Rattle.pp_load.specs.declared.refusal.LoadRefusal.TheVariants as refusals
use Rattle.pp_load.specs.Alone.{IsMergedAlone, HasOneFile, SettledFilesLoad}
use Rattle.pp_load.specs.Combine.{agreeing, merging, less_bases, joining, combined}
use Rattle.pp_load.specs.Decode.{decoded}
use Rattle.pp_load.specs.Load.{read_bytes, read_next, read_base, read_all, read_plan, load}
use Rattle.pp_load.specs.Reads.{size_limit, bytes_found, read_path, loaded_or, with_verdicts}
use Rattle.pp_load.specs.Sources.{nothing_read, within_size_limit, with_profile, with_bytes}
use Rattle.pp_load.specs.Steps as steps
use Rattle.pp_load.specs.Steps.{unless}
use Rattle.pp_pattern.specs.Report.{Finds}

-- the bytes are read whole
pub whole_read : (content : Option (List ℕ)) (bytes : List ℕ) → content ≡ Some bytes → length bytes ≤ size_limit → content_within size_limit content ≡ contents.Whole bytes
whole_read content bytes is short =
    ap (content_within size_limit) is ∙ ap (λ long. if long then contents.TooLong else contents.Whole bytes) (le-ltb size_limit (length bytes) short)

-- they are no more than fit
bytes_fit : (bytes : List ℕ) → length bytes ≤ size_limit → within_size_limit nothing_read (length bytes) ≡ Ok tt
bytes_fit bytes short = ap (λ long. if long then Err (refusals.AllTooLong 0) else Ok tt) (le-ltb size_limit (0 + length bytes) (omega (arith, short)))

-- their profile is the one that is read
one_read : (bytes : List ℕ) (p : Profile) → length bytes ≤ size_limit → decoded 0 bytes ≡ Ok p → with_bytes nothing_read bytes ≡ Ok (with_profile nothing_read (length bytes) p)
unfolding with_bytes steps.◌>>=◌
one_read bytes p short is = rw (bytes_fit bytes short, is) refl

-- alone it stays as it is
one_merged : (p : Profile) → IsMergedAlone p → merging (p ∷ []) ≡ Ok p
unfolding merging
one_merged p settled = ap (λ found. unless found refusals.TotalTooLarge (merged p [])) settled.small ∙ ap Ok settled.alone

one_combined : (p : Profile) (normalize : Bool) → IsMergedAlone p → combined 1 None normalize (p ∷ []) ≡ Ok p
unfolding combined agreeing joining less_bases steps.◌>>=◌
one_combined p normalize settled = rw (one_merged p settled) refl

-- the questions of a profile with these two patterns
abbrev asked_by : Finds → Profile → List ℕ → List ℕ → asking.Asking FramesRefused (Option (List Bool) × Option (List Bool))
asked_by finds p drop keep =
    asking.◌>>=◌ (judge_option finds frames.DropFrames p.text (whole_name drop))
    (λ dropped. asking.◌>>=◌ (judge_option finds frames.KeepFrames p.text (whole_name keep)) (λ kept. Give (Ok (dropped, kept))))

-- without patterns nothing is asked
none_asked : (finds : Finds) (p : Profile) → IsMergedAlone p → judge_load finds p ≡ Give (Ok (None, None))
unfolding judge_load judge_option asking.◌>>=◌ scripts.◌>>=◌
none_asked finds p settled = λ i. asked_by finds p (settled.drop i) (settled.keep i)

-- and there are no verdicts
none_judged : (finds : Finds) (p : Profile) → IsMergedAlone p → with_verdicts finds p ≡ Give (Ok (loaded_of p None None))
unfolding with_verdicts scripts.◌>>=◌
none_judged finds p settled =
    ap (λ asked. scripts.◌>>=◌ asked (λ answer. Give (loaded_or finds p answer))) (none_asked finds p settled)
    ∙ (λ i. Give (Ok (loaded_of p (finder_in_force finds (whole_name (settled.drop i))) (finder_in_force finds (whole_name (settled.keep i))))))

-- a kind that is not there is none
pub no_kind : (kind : Option BaseKind) → is_some kind ≡ false → kind ≡ None
no_kind None is = refl
no_kind (Some kind) is = absurd (cc)

-- what is loaded, by the parts of a plan
loading : Finds → List Origin → List (List ℕ) → Option BaseKind → Bool → asking.Asking LoadRefusal Loaded
loading finds origins bases kind normalize =
    asking.◌>>=◌ (asking.◌>>=◌ (read_all read_next nothing_read origins) (λ sources. read_all read_base sources bases))
    (λ read. asking.◌>>=◌ (Give (combined (length origins) kind normalize read.profiles)) (with_verdicts finds))

parts_loaded : (finds : Finds) (plan : Plan) → load finds plan ≡ loading finds plan.origins plan.bases plan.base_kind plan.normalize
unfolding load read_plan loading
parts_loaded finds plan = refl

-- the rest, by what was read of the bytes
abbrev after_bytes : Finds → Bool → Result Read LoadRefusal → asking.Asking LoadRefusal Loaded
after_bytes finds normalize read =
    asking.◌>>=◌ (asking.◌>>=◌ (asking.◌>>=◌ (Give read) (λ more. Give (Ok more))) (λ sources. Give (Ok sources)))
    (λ all. asking.◌>>=◌ (Give (combined 1 None normalize all.profiles)) (with_verdicts finds))

-- the rest, by the content of the file
abbrev after_content : Finds → Bool → FileContent → asking.Asking LoadRefusal Loaded
after_content finds normalize content =
    asking.◌>>=◌
    (asking.◌>>=◌ (asking.◌>>=◌ (asking.◌>>=◌ (Give (bytes_found 0 content)) (λ bytes. Give (with_bytes nothing_read bytes))) (λ more. Give (Ok more))) (λ sources. Give (Ok sources)))
    (λ all. asking.◌>>=◌ (Give (combined 1 None normalize all.profiles)) (with_verdicts finds))

module _ (finds : Finds) (path bytes : List ℕ) (p : Profile) (normalize : Bool) (short : length bytes ≤ size_limit) (is : decoded 0 bytes ≡ Ok p) (settled : IsMergedAlone p) where
  one_given : after_content finds normalize (contents.Whole bytes) ≡ Give (Ok (loaded_of p None None))
  unfolding asking.◌>>=◌ scripts.◌>>=◌
  one_given =
      ap (after_bytes finds normalize) (one_read bytes p short is)
      ∙ ap (asking.go_on (with_verdicts finds)) (one_combined p normalize settled)
      ∙ none_judged finds p settled

  one_loaded : (files : FileMap) (locked : List (List ℕ)) (lines : List InputLine) (answers : List Answer) → content_at files path ≡ Some bytes
      → course (loading finds (Path path ∷ []) [] None normalize) files locked lines answers ≡ record { effects = FromFile path ∷ []; value = Ok (loaded_of p None None); asked = [] }
  unfolding loading read_all read_next read_bytes read_path asking.◌>>=◌ scripts.◌>>=◌
  one_loaded files locked lines answers there =
      ap (λ content. does (FromFile path) (course (after_content finds normalize content) files locked lines answers)) (whole_read (content_at files path) bytes there short)
      ∙ ap (λ script. does (FromFile path) (course script files locked lines answers)) one_given

pub settled_files_load : SettledFilesLoad
settled_files_load finds plan path bytes p files locked lines answers has there short is settled =
    let kindless = no_kind plan.base_kind (plan.kind_with_bases ∙ ap (λ (bases : List (List ℕ)). nat_lt 0 (length bases)) has.bases) in
    ap (λ script. course script files locked lines answers)
    (parts_loaded finds plan ∙ (λ i. loading finds (has.origins i) (has.bases i) (kindless i) plan.normalize))
    ∙ one_loaded finds path bytes p plan.normalize short is settled files locked lines answers there
