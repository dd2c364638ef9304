-- A plan whose sources are profiles loads their merge.
use Rattle.std.proofs.Common.{◌≡◌, ℕ, ◌+◌, ◌≤◌, ◌<◌, ◌^◌, Bool, true, false, List, [], ◌∷◌, ◌++◌, map, fold, length, drop, Option, Some, None, refl, sym, ap, ◌∙◌, append-nil, append_assoc, arith}
use Rattle.std.specs.Prelude.{Result, Ok, Err, nat_lt, if◌then◌else◌}
use Rattle.std.specs.List.{AllByRecursion}
use Rattle.std.proofs.lemmas.Bool.{le-ltb}
use Rattle.std.proofs.lemmas.List.{length-map, take_all}
use Rattle.std.proofs.lemmas.Option.{same_Some}
use Rattle.pp_base.proofs.Lists.{all_by}
use Rattle.pp_base.specs.FileMap.{FileMap, content_at}
use Rattle.pp_base.specs.Judges.{Answer}
use Rattle.pp_desk.specs.declared.file_content.FileContent.{FileContent}
use Rattle.pp_desk.specs.declared.input_line.InputLine.{InputLine}
use Rattle.pp_desk.specs.Asking as asking
use Rattle.pp_desk.specs.Asking.{Asking}
use Rattle.pp_desk.specs.Course.{Course, course, does}
use Rattle.pp_desk.specs.Effects.{Effect, FromFile}
use Rattle.pp_desk.specs.Script as scripts
use Rattle.pp_desk.specs.Script.{Give}
use Rattle.pp_model.specs.declared.loaded.Loaded.{Loaded}
use Rattle.pp_model.specs.declared.profile.Profile.{Profile}
use Rattle.pp_model.specs.declared.report.BaseKind.{BaseKind}
use Rattle.pp_model.specs.Judged.{loaded_of}
use Rattle.pp_model.specs.Lookup.{text_of}
use Rattle.pp_model.specs.Rules.{NoRuleFails}
use Rattle.pp_share.proofs.NumberedLemmas.{all_mapped}
use Rattle.pp_share.specs.Described.{mapping_text}
use Rattle.pp_tables.specs.declared.refusal.ReadRefusal.{ReadRefusal}
use Rattle.pp_tables.specs.declared.refusal.ReadRefusal.TheVariants as reading
use Rattle.pp_tables.specs.Read.{read as read_tables}
use Rattle.pp_check.specs.FirstFault.{first_fault}
use Rattle.pp_legacy.specs.Legacy.{is_legacy, legacy}
use Rattle.pp_legacy.specs.Steps.{Reading}
use Rattle.pp_merge.specs.Merge.{all_mappings, contents, disagreeing, merged, too_large}
use Rattle.pp_merge.proofs.RoundTrip.{text_again}
use Rattle.pp_merge.proofs.SettledLemmas.{all_flat}
use Rattle.pp_merge.proofs.WrittenValid.{texts_of_patterns}
use Rattle.pp_options.specs.declared.origin.Origin.{Origin}
use Rattle.pp_options.specs.declared.origin.Origin.TheVariants.{Path, Gen}
use Rattle.pp_options.specs.declared.plan.Plan.{Plan}
use Rattle.pp_pattern.specs.declared.load.FramesRefused.{FramesRefused}
use Rattle.pp_pattern.specs.declared.load.FramesRefused.TheVariants as frames
use Rattle.pp_pattern.specs.Load.{whole_name, judge_load}
use Rattle.pp_pattern.specs.Patterns.{judge_option, finder_in_force}
use Rattle.pp_pattern.specs.Report.{Finds}
use Rattle.pp_load.specs.declared.reading.Read.{Read}
use Rattle.pp_load.specs.declared.refusal.LoadRefusal.{LoadRefusal}
use Rattle.pp_load.specs.declared.refusal.LoadRefusal.TheVariants as refusals
use Rattle.pp_load.specs.Combine.{agreeing, merging, less_bases, joining, combined}
use Rattle.pp_load.specs.Decode.{checked, decoded, legacy_given, tables_given, tables_of}
use Rattle.pp_load.specs.Generator.{generated}
use Rattle.pp_load.specs.Joining.{HasStarts}
use Rattle.pp_load.specs.Load.{read_bytes, read_next, read_base, read_all, read_plan, load}
use Rattle.pp_load.specs.Reads.{size_limit, bytes_found, read_path, loaded_or, with_verdicts}
use Rattle.pp_load.specs.Sources.{nothing_read, within_size_limit, with_profile, with_bytes}
use Rattle.pp_load.specs.Steps as steps
use Rattle.pp_load.specs.Steps.{unless}
use Rattle.pp_load.proofs.AloneLemmas.{no_kind, whole_read}
use Rattle.pp_alike.specs.SavedGroups.{HasProfiles, source_bytes}
use Rattle.pp_engine.proofs.Courses.{AreReads}
use Rattle.pp_alike.proofs.LoadedLemmas.{is_decoded}

-- ---- lists that are the same

abbrev first_or : {A : Type 0} → A → List A → A
first_or default [] = default
first_or default (x ∷ xs) = x

abbrev rest_of_list : {A : Type 0} → List A → List A
rest_of_list [] = []
rest_of_list (x ∷ xs) = xs

same_cons : {A : Type 0} (x y : A) (xs ys : List A) → x ∷ xs ≡ y ∷ ys → (x ≡ y) × (xs ≡ ys)
same_cons x y xs ys is = (ap (first_or x) is, ap rest_of_list is)

-- ---- bytes that are decoded

legacy_anywhere : (m n : ℕ) (p : Profile) (r : Reading Profile) → legacy_given m r ≡ Ok p → legacy_given n r ≡ Ok p
legacy_anywhere m n p (Ok q) is = is
legacy_anywhere m n p (Err fault) is = absurd cc

checked_anywhere : {F : Type 0} (f g : F → LoadRefusal) (p q : Profile) (found : Option F) → unless found f q ≡ Ok p → unless found g q ≡ Ok p
checked_anywhere f g p q None is = is
checked_anywhere f g p q (Some fault) is = absurd cc

tables_anywhere : (m n : ℕ) (p : Profile) (r : Result Profile ReadRefusal) → steps.◌>>=◌ (tables_given m r) (checked m) ≡ Ok p → steps.◌>>=◌ (tables_given n r) (checked n) ≡ Ok p
unfolding steps.◌>>=◌
tables_anywhere m n p (Ok q) is = checked_anywhere (refusals.Table m) (refusals.Table n) p q (first_fault q) is
tables_anywhere m n p (Err reading.Empty) is = absurd cc
tables_anywhere m n p (Err reading.Compressed) is = absurd cc
tables_anywhere m n p (Err (reading.Wire fault)) is = absurd cc
tables_anywhere m n p (Err reading.Memory) is = absurd cc

-- the number of a source does not matter for its profile
pub decoded_anywhere : (m n : ℕ) (bytes : List ℕ) (p : Profile) → decoded m bytes ≡ Ok p → decoded n bytes ≡ Ok p
unfolding decoded tables_of
decoded_anywhere m n bytes p = by (is_legacy bytes)
  where
    by : (b : Bool) → (if b then legacy_given m (legacy bytes) else steps.◌>>=◌ (tables_given m (read_tables bytes)) (checked m)) ≡ Ok p
        → (if b then legacy_given n (legacy bytes) else steps.◌>>=◌ (tables_given n (read_tables bytes)) (checked n)) ≡ Ok p
    by true is = legacy_anywhere m n p (legacy bytes) is
    by false is = tables_anywhere m n p (read_tables bytes) is

-- what is known of each of the sources
record IsSound (p : Profile) : Type 0 where
  valid : NoRuleFails p
  starts : HasStarts p

all_sound : (all : List (List ℕ)) (ps : List Profile) → map (decoded 0) all ≡ map Ok ps → AllByRecursion IsSound ps
all_sound [] [] are = tt
all_sound [] (p ∷ ps) are = absurd cc
all_sound (bytes ∷ all) [] are = absurd cc
all_sound (bytes ∷ all) (p ∷ ps) are =
    let d = same_cons (decoded 0 bytes) (Ok p) (map (decoded 0) all) (map Ok ps) are in
    let own = is_decoded 0 bytes p d.0 in
    (record { valid = own.valid; starts = own.starts }, all_sound all ps d.1)

module _ (plan : Plan) (files : FileMap) (ps : List Profile) (have : HasProfiles plan files ps) where
  pub sources_valid : AllByRecursion NoRuleFails ps
  sources_valid = all_by IsSound NoRuleFails (λ p sound. sound.valid) ps (all_sound have.bytes ps have.are)

  pub sources_start : AllByRecursion HasStarts ps
  sources_start = all_by IsSound HasStarts (λ p sound. sound.starts) ps (all_sound have.bytes ps have.are)

-- no mapping starts past 64 bits
pub mappings_start : (ps : List Profile) → AllByRecursion HasStarts ps → AllByRecursion (λ m. m.start < 2 ^ 64) (all_mappings ps)
mappings_start ps own =
    all_flat (λ m. m.start < 2 ^ 64) (λ p. map (mapping_text p) p.mapping) ps
    (all_by HasStarts _ (λ p starts. all_mapped (λ m. m.start < 2 ^ 64) (mapping_text p) p.mapping starts) ps own)

-- ---- sources that are read

-- the size of all that is read after these bytes
abbrev pub size_after : ℕ → List (List ℕ) → ℕ
size_after size all = fold (λ sum (bytes : List ℕ). sum + length bytes) size all

pub size_within : (size : ℕ) (all : List (List ℕ)) → size ≤ size_after size all
size_within size [] = omega arith
size_within size (bytes ∷ all) =
    let more : size + length bytes ≤ size_after (size + length bytes) all = size_within (size + length bytes) all in
    omega (arith, more)

-- what is read after the profiles of these bytes
abbrev read_more : Read → List (List ℕ) → List Profile → Read
read_more read [] ps = read
read_more read (bytes ∷ all) [] = read
read_more read (bytes ∷ all) (p ∷ ps) = read_more (with_profile read (length bytes) p) all ps

profiles_read : (read : Read) (all : List (List ℕ)) (ps : List Profile) → map (decoded 0) all ≡ map Ok ps → (read_more read all ps).profiles ≡ read.profiles ++ ps
profiles_read read [] [] are = sym (append-nil read.profiles)
profiles_read read [] (p ∷ ps) are = absurd cc
profiles_read read (bytes ∷ all) [] are = absurd cc
profiles_read read (bytes ∷ all) (p ∷ ps) are =
    profiles_read (with_profile read (length bytes) p) all ps (same_cons (decoded 0 bytes) (Ok p) (map (decoded 0) all) (map Ok ps) are).1
    ∙ append_assoc read.profiles (p ∷ []) ps

bytes_fit : (read : Read) (bytes : List ℕ) → read.size + length bytes ≤ size_limit → within_size_limit read (length bytes) ≡ Ok tt
bytes_fit read bytes short = ap (λ long. if long then Err (refusals.AllTooLong (length read.profiles)) else Ok tt) (le-ltb size_limit (read.size + length bytes) short)

one_read : (read : Read) (bytes : List ℕ) (p : Profile) → read.size + length bytes ≤ size_limit → decoded 0 bytes ≡ Ok p → with_bytes read bytes ≡ Ok (with_profile read (length bytes) p)
unfolding with_bytes steps.◌>>=◌
one_read read bytes p short is = rw (bytes_fit read bytes short, decoded_anywhere 0 (length read.profiles) bytes p is) refl

-- the reads of these sources
abbrev pub reads_for : List Origin → List Effect
reads_for [] = []
reads_for (Path path ∷ origins) = FromFile path ∷ reads_for origins
reads_for (Gen samples ∷ origins) = reads_for origins

-- the course behind those reads
abbrev after_reads : {T : Type 0} → List Origin → Course T → Course T
after_reads origins c = record { effects = reads_for origins ++ c.effects; value = c.value; asked = c.asked }

module _ (files : FileMap) (locked : List (List ℕ)) (lines : List InputLine) (answers : List Answer)
    (next : Read → Asking LoadRefusal Read) (last : Read → Asking LoadRefusal Loaded) where
  abbrev over : Asking LoadRefusal Loaded → Course (Result Loaded LoadRefusal)
  over script = course script files locked lines answers

  -- the reading of these sources, and what follows
  abbrev reading_on : Read → List Origin → Asking LoadRefusal Loaded
  reading_on read origins = asking.◌>>=◌ (asking.◌>>=◌ (read_all read_next read origins) next) last

  -- it, by what is read with the bytes of one source more
  abbrev with_read : List Origin → Result Read LoadRefusal → Asking LoadRefusal Loaded
  with_read origins more = asking.◌>>=◌ (asking.◌>>=◌ (asking.◌>>=◌ (Give more) (λ read. read_all read_next read origins)) next) last

  -- and by what stands at the path of that source
  abbrev with_content : Read → List Origin → FileContent → Asking LoadRefusal Loaded
  with_content read origins content =
      asking.◌>>=◌
      (asking.◌>>=◌
      (asking.◌>>=◌ (asking.◌>>=◌ (Give (bytes_found (length read.profiles) content)) (λ bytes. Give (with_bytes read bytes))) (λ more. read_all read_next more origins))
      next)
      last

  origins_read : (read : Read) (origins : List Origin) (all : List (List ℕ)) (ps : List Profile)
      → map (source_bytes files) origins ≡ map Some all → map (decoded 0) all ≡ map Ok ps → size_after read.size all ≤ size_limit
      → over (reading_on read origins) ≡ after_reads origins (over (asking.◌>>=◌ (next (read_more read all ps)) last))
  unfolding read_all read_next read_bytes read_path asking.◌>>=◌ scripts.◌>>=◌
  origins_read read [] [] ps found are short = refl
  origins_read read [] (bytes ∷ all) ps found are short = absurd cc
  origins_read read (origin ∷ origins) [] ps found are short = absurd cc
  origins_read read (origin ∷ origins) (bytes ∷ all) [] found are short = absurd cc
  origins_read read (Path path ∷ origins) (bytes ∷ all) (p ∷ ps) found are short =
      let f = same_cons (content_at files path) (Some bytes) (map (source_bytes files) origins) (map Some all) found in
      let d = same_cons (decoded 0 bytes) (Ok p) (map (decoded 0) all) (map Ok ps) are in
      let behind : size_after (read.size + length bytes) all ≤ size_limit = short in
      let within : read.size + length bytes ≤ size_limit = omega (arith, behind, size_within (read.size + length bytes) all) in
      ap (λ (content : FileContent). does (FromFile path) (over (with_content read origins content))) (whole_read (content_at files path) bytes f.0 (omega (arith, within)))
      ∙ ap (λ (more : Result Read LoadRefusal). does (FromFile path) (over (with_read origins more))) (one_read read bytes p within d.0)
      ∙ ap (does (FromFile path)) (origins_read (with_profile read (length bytes) p) origins all ps f.1 d.1 behind)
  origins_read read (Gen samples ∷ origins) (bytes ∷ all) (p ∷ ps) found are short =
      let f = same_cons (Some (generated samples)) (Some bytes) (map (source_bytes files) origins) (map Some all) found in
      let d = same_cons (decoded 0 bytes) (Ok p) (map (decoded 0) all) (map Ok ps) are in
      let behind : size_after (read.size + length bytes) all ≤ size_limit = short in
      let within : read.size + length bytes ≤ size_limit = omega (arith, behind, size_within (read.size + length bytes) all) in
      ap (λ (made : List ℕ). over (with_read origins (with_bytes read made))) (same_Some (generated samples) bytes f.0)
      ∙ ap (λ (more : Result Read LoadRefusal). over (with_read origins more)) (one_read read bytes p within d.0)
      ∙ origins_read (with_profile read (length bytes) p) origins all ps f.1 d.1 behind

-- ---- sources that are merged

abbrev less_none : Bool → List Profile → Profile → Result Profile LoadRefusal
less_none normalize bases source = less_bases None normalize source bases

all_combined : (n : ℕ) (normalize : Bool) (p : Profile) (ps : List Profile) → n ≡ length (p ∷ ps) → disagreeing p 1 ps ≡ None → too_large (length p.sample_type) (p ∷ ps) ≡ None
    → combined n None normalize (p ∷ ps) ≡ Ok (merged p ps)
unfolding combined agreeing joining merging less_bases steps.◌>>=◌
all_combined n normalize p ps is agree sums =
    ap (λ found. steps.◌>>=◌ (unless found (λ f. refusals.Incompatible f.0 f.1) tt) (λ _. joining n None normalize (p ∷ ps))) agree
    ∙ ap (λ (list : List Profile). steps.◌>>=◌ (merging list) (less_none normalize (drop n (p ∷ ps)))) (take_all n (p ∷ ps) (omega (arith, is)))
    ∙ ap (λ found. steps.◌>>=◌ (unless found refusals.TotalTooLarge (merged p ps)) (less_none normalize (drop n (p ∷ ps)))) sums

-- ---- patterns of which there are none

-- the questions of a profile with these two patterns
abbrev asked_by : Finds → Profile → List ℕ → List ℕ → Asking FramesRefused (Option (List Bool) × Option (List Bool))
asked_by finds p drop keep =
    asking.◌>>=◌ (judge_option finds frames.DropFrames p.text (whole_name drop))
    (λ dropped. asking.◌>>=◌ (judge_option finds frames.KeepFrames p.text (whole_name keep)) (λ kept. Give (Ok (dropped, kept))))

module _ (finds : Finds) (p : Profile) (drop : text_of p p.drop_frames ≡ []) (keep : text_of p p.keep_frames ≡ []) where
  none_asked : judge_load finds p ≡ Give (Ok (None, None))
  unfolding judge_load judge_option asking.◌>>=◌ scripts.◌>>=◌
  none_asked = λ i. asked_by finds p (drop i) (keep i)

  none_judged : with_verdicts finds p ≡ Give (Ok (loaded_of p None None))
  unfolding with_verdicts scripts.◌>>=◌
  none_judged =
      ap (λ asked. scripts.◌>>=◌ asked (λ answer. Give (loaded_or finds p answer))) none_asked
      ∙ (λ i. Give (Ok (loaded_of p (finder_in_force finds (whole_name (drop i))) (finder_in_force finds (whole_name (keep i))))))

-- ---- all of loading

-- a plan without bases
pub kindless : (plan : Plan) → plan.bases ≡ [] → plan.base_kind ≡ None
kindless plan none = no_kind plan.base_kind (plan.kind_with_bases ∙ ap (λ (bases : List (List ℕ)). nat_lt 0 (length bases)) none)

-- what is done once all is read
abbrev combining : Finds → ℕ → Bool → List Profile → Asking LoadRefusal Loaded
combining finds sources normalize profiles = asking.◌>>=◌ (Give (combined sources None normalize profiles)) (with_verdicts finds)

abbrev loading : Finds → List Origin → List (List ℕ) → Option BaseKind → Bool → Asking LoadRefusal Loaded
loading finds origins bases kind normalize =
    asking.◌>>=◌ (asking.◌>>=◌ (read_all read_next nothing_read origins) (λ sources. read_all read_base sources bases))
    (λ read. asking.◌>>=◌ (Give (combined (length origins) kind normalize read.profiles)) (with_verdicts finds))

parts_loaded : (finds : Finds) (plan : Plan) → load finds plan ≡ loading finds plan.origins plan.bases plan.base_kind plan.normalize
unfolding load read_plan
parts_loaded finds plan = refl

-- the course of a loading that reads these sources
abbrev pub loaded_course : List Origin → Loaded → Course (Result Loaded LoadRefusal)
loaded_course origins l = record { effects = reads_for origins ++ []; value = Ok l; asked = [] }

pub they_are_reads : (origins : List Origin) → AreReads (reads_for origins ++ [])
they_are_reads [] = tt
they_are_reads (Path path ∷ origins) = they_are_reads origins
they_are_reads (Gen samples ∷ origins) = they_are_reads origins

module _ (p : Profile) (ps : List Profile) where
  -- a merge has the patterns of its first profile
  pub drop_kept : text_of (merged p ps) (merged p ps).drop_frames ≡ text_of p p.drop_frames
  drop_kept = text_again (contents p ps) (contents p ps).header.drop_frames (texts_of_patterns (contents p ps)).0

  pub keep_kept : text_of (merged p ps) (merged p ps).keep_frames ≡ text_of p p.keep_frames
  keep_kept = text_again (contents p ps) (contents p ps).header.keep_frames (texts_of_patterns (contents p ps)).1.0

module _ (finds : Finds) (plan : Plan) (files : FileMap) (p : Profile) (ps : List Profile) (have : HasProfiles plan files (p ∷ ps))
    (agree : disagreeing p 1 ps ≡ None) (sums : too_large (length p.sample_type) (p ∷ ps) ≡ None)
    (drop_none : text_of p p.drop_frames ≡ []) (keep_none : text_of p p.keep_frames ≡ []) where
  as_many : length plan.origins ≡ length (p ∷ ps)
  as_many =
      sym (length-map plan.origins (source_bytes files)) ∙ ap (λ (l : List (Option (List ℕ))). length l) have.has.found ∙ length-map have.bytes Some
      ∙ sym (length-map have.bytes (decoded 0)) ∙ ap (λ (l : List (Result Profile LoadRefusal)). length l) have.are ∙ length-map (p ∷ ps) Ok

  after : combining finds (length plan.origins) plan.normalize (read_more nothing_read have.bytes (p ∷ ps)).profiles ≡ Give (Ok (loaded_of (merged p ps) None None))
  unfolding asking.◌>>=◌ scripts.◌>>=◌
  after =
      ap (combining finds (length plan.origins) plan.normalize) (profiles_read nothing_read have.bytes (p ∷ ps) have.are)
      ∙ ap (asking.go_on (with_verdicts finds)) (all_combined (length plan.origins) plan.normalize p ps as_many agree sums)
      ∙ none_judged finds (merged p ps) (drop_kept p ps ∙ drop_none) (keep_kept p ps ∙ keep_none)

  -- All together.
  pub sources_load : (locked : List (List ℕ)) (lines : List InputLine) (answers : List Answer)
      → course (load finds plan) files locked lines answers ≡ loaded_course plan.origins (loaded_of (merged p ps) None None)
  unfolding read_all asking.◌>>=◌ scripts.◌>>=◌
  sources_load locked lines answers =
      ap (λ script. course script files locked lines answers)
      (parts_loaded finds plan ∙ (λ i. loading finds plan.origins (have.has.no_bases i) (kindless plan have.has.no_bases i) plan.normalize))
      ∙ origins_read files locked lines answers (λ sources. read_all read_base sources [])
      (λ read. combining finds (length plan.origins) plan.normalize read.profiles) nothing_read plan.origins have.bytes (p ∷ ps) have.has.found have.are have.has.short
      ∙ ap (λ script. after_reads plan.origins (course script files locked lines answers)) after
