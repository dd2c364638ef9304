-- The command's loading of one file, and the loading of its bytes.
use Rattle.std.proofs.Common.{◌≡◌, ℕ, Bool, true, false, List, [], ◌∷◌, length, inl, inr, refl, ap, ◌∙◌, subst, zero-add, if◌then◌else◌}
use Rattle.std.specs.Prelude.{Option, Some, None, IfSome, nat_lt, Result, Ok, Err}
use Rattle.std.specs.FinMap.{get-from_entries}
use Rattle.std.proofs.lemmas.Cmp.{nat_list_cmp_total}
use Rattle.pp_base.specs.FileMap.{FileMap, content_at}
use Rattle.pp_desk.specs.declared.file_content.FileContent.{FileContent}
use Rattle.pp_desk.specs.declared.file_content.FileContent.TheVariants as contents
use Rattle.pp_desk.specs.declared.stop.Stop.{Stop}
use Rattle.pp_desk.specs.declared.stop.Stop.TheVariants as stops
use Rattle.pp_desk.specs.Asked.{Asked, told_by, value_of}
use Rattle.pp_desk.specs.Asking as asking
use Rattle.pp_desk.specs.Course.{course, does}
use Rattle.pp_desk.specs.Effects.{FromFile}
use Rattle.pp_desk.specs.Script as scripts
use Rattle.pp_desk.specs.Script.{Script, Give, Make, ReadFile}
use Rattle.pp_desk.specs.Went.{Went, Ways, Goes, Halts, InPart, IsReply, after, content_within, parts}
use Rattle.pp_desk.specs.World.{Told, World}
use Rattle.pp_desk.proofs.AskedLemmas.{asks, at_rest, goes_by, halts_by, halts_now, same_told}
use Rattle.pp_desk.proofs.Quiet.{Only, only_then}
use Rattle.pp_model.specs.declared.loaded.Loaded.{Loaded}
use Rattle.pp_model.specs.declared.profile.Profile.{Profile}
use Rattle.pp_model.specs.declared.report.BaseKind.{BaseKind}
use Rattle.pp_options.specs.declared.origin.Origin.{Origin}
use Rattle.pp_options.specs.declared.origin.Origin.TheVariants.{Path}
use Rattle.pp_options.specs.declared.plan.Plan.{Plan}
use Rattle.pp_pattern.specs.Load.{judge_load}
use Rattle.pp_pattern.specs.Report.{Finds}
use Rattle.pp_pattern.proofs.AskQuiet.{only_load}
use Rattle.pp_load.specs.declared.reading.Read.{Read}
use Rattle.pp_load.specs.declared.refusal.LoadRefusal.{LoadRefusal}
use Rattle.pp_load.specs.declared.refusal.LoadRefusal.TheVariants as refusals
use Rattle.pp_load.specs.Alone.{HasOneFile}
use Rattle.pp_load.specs.Combine.{agreeing, merging, less_bases, joining, combined}
use Rattle.pp_load.specs.Decode.{decoded}
use Rattle.pp_load.specs.Load.{read_bytes, read_next, read_base, read_all, read_plan, load}
use Rattle.pp_load.specs.Reads.{size_limit, bytes_found, read_path, with_verdicts}
use Rattle.pp_load.specs.Sources.{nothing_read, within_size_limit, with_profile, with_bytes}
use Rattle.pp_load.specs.Steps as steps
use Rattle.pp_load.specs.Steps.{Loading}
use Rattle.pp_load.proofs.AloneLemmas.{no_kind}
use Rattle.pp_library.specs.Loads.{BytesLoadAsFiles, profile_of_file, load_bytes, held_files}

-- ---- the script of a plan with one file

-- what is loaded, by the parts of a plan
loading : Finds → List Origin → List (List ℕ) → Option BaseKind → Bool → asking.Asking LoadRefusal Loaded
loading finds origins bases kind normalize =
    asking.◌>>=◌ (asking.◌>>=◌ (read_all read_next nothing_read origins) (λ sources. read_all read_base sources bases))
    (λ read. asking.◌>>=◌ (Give (combined (length origins) kind normalize read.profiles)) (with_verdicts finds))

parts_loaded : (finds : Finds) (plan : Plan) → load finds plan ≡ loading finds plan.origins plan.bases plan.base_kind plan.normalize
unfolding load read_plan loading
parts_loaded finds plan = refl

-- the profile of what was read of one source
abbrev profile_read : Bool → Read → Loading Profile
profile_read normalize all = combined 1 None normalize all.profiles

-- the rest of the script, by what was read of the bytes, and by the bytes that were found
abbrev after_read : Finds → Bool → Loading Read → asking.Asking LoadRefusal Loaded
after_read finds normalize read =
    asking.◌>>=◌ (asking.◌>>=◌ (asking.◌>>=◌ (Give read) (λ more. Give (Ok more))) (λ sources. Give (Ok sources)))
    (λ all. asking.◌>>=◌ (Give (profile_read normalize all)) (with_verdicts finds))

abbrev after_found : Finds → Bool → Loading (List ℕ) → asking.Asking LoadRefusal Loaded
after_found finds normalize found =
    asking.◌>>=◌
    (asking.◌>>=◌ (asking.◌>>=◌ (asking.◌>>=◌ (Give found) (λ bytes. Give (with_bytes nothing_read bytes))) (λ more. Give (Ok more))) (λ sources. Give (Ok sources)))
    (λ all. asking.◌>>=◌ (Give (profile_read normalize all)) (with_verdicts finds))

read_rest : (finds : Finds) (normalize : Bool) (read : Loading Read) → after_read finds normalize read ≡ asking.go_on (with_verdicts finds) (steps.◌>>=◌ read (profile_read normalize))
unfolding asking.◌>>=◌ scripts.◌>>=◌ steps.◌>>=◌
read_rest finds normalize (Ok read) = refl
read_rest finds normalize (Err refused) = refl

found_rest : (finds : Finds) (normalize : Bool) (found : Loading (List ℕ))
    → after_found finds normalize found ≡ asking.go_on (with_verdicts finds) (steps.◌>>=◌ (steps.◌>>=◌ found (with_bytes nothing_read)) (profile_read normalize))
unfolding asking.◌>>=◌ scripts.◌>>=◌ steps.◌>>=◌
found_rest finds normalize (Ok bytes) = read_rest finds normalize (with_bytes nothing_read bytes)
found_rest finds normalize (Err refused) = refl

path_loaded : (finds : Finds) (path : List ℕ) (normalize : Bool)
    → loading finds (Path path ∷ []) [] None normalize ≡ Make (ReadFile path size_limit) (λ content. after_found finds normalize (bytes_found 0 content))
unfolding loading read_all read_next read_bytes read_path asking.◌>>=◌ scripts.◌>>=◌
path_loaded finds path normalize = refl

-- the file is read, and the rest follows
one_script : (finds : Finds) (plan : Plan) (path : List ℕ) → HasOneFile plan path
    → load finds plan ≡ Make (ReadFile path size_limit) (λ content. after_found finds plan.normalize (bytes_found 0 content))
one_script finds plan path has =
    let kindless = no_kind plan.base_kind (plan.kind_with_bases ∙ ap (λ (bases : List (List ℕ)). nat_lt 0 (length bases)) has.bases) in
    parts_loaded finds plan
    ∙ (λ i. loading finds (has.origins i) (has.bases i) (kindless i) plan.normalize)
    ∙ path_loaded finds path plan.normalize

-- ---- what the bytes come to

-- one profile is merged alone
alone_rest : (normalize : Bool) (made : Loading Profile) → steps.◌>>=◌ made (λ source. less_bases None normalize source []) ≡ made
unfolding less_bases steps.◌>>=◌
alone_rest normalize (Ok p) = refl
alone_rest normalize (Err refused) = refl

one_combined : (normalize : Bool) (p : Profile) → combined 1 None normalize (p ∷ []) ≡ merging (p ∷ [])
unfolding combined agreeing joining steps.◌>>=◌
one_combined normalize p = alone_rest normalize (merging (p ∷ []))

decoded_rest : (normalize : Bool) (len : ℕ) (made : Loading Profile)
    → steps.◌>>=◌ (steps.◌>>=◌ made (λ p. Ok (with_profile nothing_read len p))) (profile_read normalize) ≡ steps.◌>>=◌ made (λ p. merging (p ∷ []))
unfolding steps.◌>>=◌
decoded_rest normalize len (Ok p) = one_combined normalize p
decoded_rest normalize len (Err refused) = refl

module _ (bytes : List ℕ) (normalize : Bool) where
  -- bytes within the limit are not too long together
  bytes_fit : nat_lt size_limit (length bytes) ≡ false → within_size_limit nothing_read (length bytes) ≡ Ok tt
  bytes_fit short = ap (λ long. if long then Err (refusals.AllTooLong 0) else Ok tt) (ap (nat_lt size_limit) (zero-add (length bytes)) ∙ short)

  within_rest : nat_lt size_limit (length bytes) ≡ false
      → steps.◌>>=◌ (with_bytes nothing_read bytes) (profile_read normalize) ≡ steps.◌>>=◌ (decoded 0 bytes) (λ p. merging (p ∷ []))
  unfolding with_bytes steps.◌>>=◌
  within_rest short =
      ap (λ fits. steps.◌>>=◌ (steps.◌>>=◌ fits (λ _. steps.◌>>=◌ (decoded 0 bytes) (λ p. Ok (with_profile nothing_read (length bytes) p)))) (profile_read normalize)) (bytes_fit short)
      ∙ decoded_rest normalize (length bytes) (decoded 0 bytes)

  found_by : (long : Bool) → nat_lt size_limit (length bytes) ≡ long
      → steps.◌>>=◌ (steps.◌>>=◌ (bytes_found 0 (if long then contents.TooLong else contents.Whole bytes)) (with_bytes nothing_read)) (profile_read normalize)
      ≡ (if long then Err (refusals.TooLong 0) else steps.◌>>=◌ (decoded 0 bytes) (λ p. merging (p ∷ [])))
  unfolding steps.◌>>=◌
  found_by true is = refl
  found_by false is = within_rest is

  -- the bytes that a read finds come to their profile
  found_is : steps.◌>>=◌ (steps.◌>>=◌ (bytes_found 0 (content_within size_limit (Some bytes))) (with_bytes nothing_read)) (profile_read normalize) ≡ profile_of_file bytes
  unfolding profile_of_file
  found_is = found_by (nat_lt size_limit (length bytes)) refl

  -- what is left to do once they are found
  rest_is : (finds : Finds) (content : FileContent) → content ≡ content_within size_limit (Some bytes) → after_found finds normalize (bytes_found 0 content) ≡ load_bytes finds bytes
  unfolding load_bytes
  rest_is finds content is =
      ap (λ found. after_found finds normalize (bytes_found 0 found)) is
      ∙ found_rest finds normalize (bytes_found 0 (content_within size_limit (Some bytes)))
      ∙ ap (asking.go_on (with_verdicts finds)) found_is

pub bytes_load_as_files : BytesLoadAsFiles
bytes_load_as_files finds plan path bytes files locked lines answers has there =
    ap (λ script. course script files locked lines answers) (one_script finds plan path has)
    ∙ ap (λ script. does (FromFile path) (course script files locked lines answers))
    (rest_is bytes plan.normalize finds (content_within size_limit (content_at files path)) (ap (content_within size_limit) there))

-- ---- how it went at a desk that has the bytes alone

-- the file stands at the empty path
held_bytes : (bytes : List ℕ) → content_at (held_files bytes) [] ≡ Some bytes
held_bytes bytes = get-from_entries nat_list_cmp_total (([], bytes) ∷ []) []

only_verdicts : (finds : Finds) (made : Loading Profile) → Only asks (asking.go_on (with_verdicts finds) made)
unfolding with_verdicts
only_verdicts finds (Ok p) = only_then asks (judge_load finds p) _ (only_load asks (λ pattern. refl) finds p) (λ answer. tt)
only_verdicts finds (Err refused) = tt

only_bytes : (finds : Finds) (bytes : List ℕ) → Only asks (load_bytes finds bytes)
unfolding load_bytes
only_bytes finds bytes = only_verdicts finds (profile_of_file bytes)

-- a read that was stopped asked nothing
in_part : (old new : Told) (path : List ℕ) (limit : ℕ) (stop : Stop) → InPart old new (ReadFile path limit) stop → told_by new.answers ≡ told_by old.answers
in_part old new path limit stops.File (inl is) = same_told is
in_part old new path limit stops.File (inr is) = same_told is
in_part old new path limit stops.Memory (inl is) = same_told is
in_part old new path limit stops.Memory (inr is) = same_told is
in_part old new path limit stop is = absurd is

module _ (finds : Finds) (plan : Plan) (bytes : List ℕ) (has : HasOneFile plan []) where
  abbrev rest : FileContent → Script (Loading Loaded)
  rest content = after_found finds plan.normalize (bytes_found 0 content)

  reply_is : (told : Told) (content : FileContent) → told.files ≡ Some (held_files bytes) → IsReply told (ReadFile [] size_limit) content → content ≡ content_within size_limit (Some bytes)
  reply_is told content held is =
      let known : IfSome (Some (held_files bytes)) (λ files. content ≡ content_within size_limit (content_at files [])) = subst (λ (o : Option FileMap). IfSome o (λ files. content ≡ content_within size_limit (content_at files []))) held is in
      known ∙ ap (content_within size_limit) (held_bytes bytes)

  goes_on : (old new : Told) (v : Loading Loaded) → old.files ≡ Some (held_files bytes) → Goes old new (Make (ReadFile [] size_limit) rest) v
      → Goes (told_by old.answers) (told_by new.answers) (load_bytes finds bytes) v
  unfolding Goes
  goes_on old new v held went =
      goes_by (load_bytes finds bytes) (after old (ReadFile [] size_limit) went.0) new v (only_bytes finds bytes)
      (subst (λ script. Goes (after old (ReadFile [] size_limit) went.0) new script v) (rest_is bytes plan.normalize finds went.0 (reply_is old went.0 held went.1)) went.2)

  halts_on : (old new : Told) (stop : Stop) → old.files ≡ Some (held_files bytes) → Halts old new (Make (ReadFile [] size_limit) rest) stop
      → Halts (told_by old.answers) (told_by new.answers) (load_bytes finds bytes) stops.Memory
  unfolding Halts
  halts_on old new stop held (inl is) = rw (at_rest old new stop is) (halts_now (load_bytes finds bytes) (told_by old.answers))
  halts_on old new stop held (inr (inl is)) = rw (in_part old new [] size_limit stop is) (halts_now (load_bytes finds bytes) (told_by old.answers))
  halts_on old new stop held (inr (inr is)) =
      halts_by (load_bytes finds bytes) (after old (ReadFile [] size_limit) is.0) new stop (only_bytes finds bytes)
      (subst (λ script. Halts (after old (ReadFile [] size_limit) is.0) new script stop) (rest_is bytes plan.normalize finds is.0 (reply_is old is.0 held is.1)) is.2)

  -- The file was loaded as its bytes are.
  pub went_loaded : (old new : World) (result : Result (Loading Loaded) Stop) → old.told.files ≡ Some (held_files bytes) → Went old new (load finds plan) result
      → Asked old.told.answers new.told.answers (load_bytes finds bytes) (value_of result)
  unfolding Ways
  went_loaded old new (Ok value) held went =
      goes_on old.told new.told value held (subst (λ script. Goes old.told new.told script value) (one_script finds plan [] has) (parts went).ways)
  went_loaded old new (Err stop) held went =
      halts_on old.told new.told stop held (subst (λ script. Halts old.told new.told script stop) (one_script finds plan [] has) (parts went).ways)
