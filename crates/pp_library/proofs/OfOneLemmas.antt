-- Which refusals come of the bytes of one file.
use Rattle.std.proofs.Common.{◌≡◌, ℕ, Bool, true, false, List, [], ◌∷◌, length, refl, sym, subst, if◌then◌else◌}
use Rattle.std.specs.Prelude.{Option, Some, None, nat_lt, Result, Ok, Err, IfErr, IfOk}
use Rattle.pp_base.specs.Judges.{Answer}
use Rattle.pp_desk.specs.declared.stop.Stop.{Stop}
use Rattle.pp_desk.specs.Asking as asking
use Rattle.pp_desk.specs.Went.{Goes}
use Rattle.pp_desk.specs.World.{Told}
use Rattle.pp_model.specs.declared.loaded.Loaded.{Loaded}
use Rattle.pp_model.specs.declared.profile.Profile.{Profile}
use Rattle.pp_legacy.specs.Legacy.{is_legacy, legacy}
use Rattle.pp_legacy.specs.Steps.{Reading}
use Rattle.pp_tables.specs.declared.refusal.ReadRefusal.{ReadRefusal}
use Rattle.pp_tables.specs.declared.refusal.ReadRefusal.TheVariants as reading
use Rattle.pp_tables.specs.Read.{read}
use Rattle.pp_check.specs.FirstFault.{first_fault}
use Rattle.pp_check.specs.declared.fault.TableFault.{TableFault}
use Rattle.pp_merge.specs.Merge.{merged, too_large}
use Rattle.pp_pattern.specs.declared.load.FramesRefused.{FramesRefused}
use Rattle.pp_pattern.specs.declared.load.FramesRefused.TheVariants as frames
use Rattle.pp_pattern.specs.Load.{judge_load}
use Rattle.pp_pattern.specs.Report.{Finds}
use Rattle.pp_load.specs.declared.refusal.LoadRefusal.TheVariants as refusals
use Rattle.pp_load.specs.Combine.{merging}
use Rattle.pp_load.specs.Decode.{legacy_given, tables_given, checked, tables_of, decoded}
use Rattle.pp_load.specs.Reads.{size_limit, loaded_or, with_verdicts}
use Rattle.pp_load.specs.Steps.{Loading, ◌>>=◌, unless}
use Rattle.pp_library.specs.declared.countable.Countable.{Countable}
use Rattle.pp_library.specs.declared.load_error.LoadError.{LoadError}
use Rattle.pp_library.specs.declared.load_error.LoadError.TheVariants as errors
use Rattle.pp_desk.specs.Asked.{Asked, value_of}
use Rattle.pp_library.specs.Loads.{IsOfOne, profile_of_file, load_bytes, outcome_of}
use Rattle.pp_desk.proofs.AskedLemmas.{goes_then}

-- a refusal among those that an error tells
abbrev OfOne : {A : Type 0} → Loading A → Type 0
OfOne made = IfErr made IsOfOne

then_of_one : {A B : Type 0} (made : Loading A) (next : A → Loading B) → OfOne made → ((x : A) → OfOne (next x)) → OfOne (made >>= next)
unfolding ◌>>=◌
then_of_one (Ok x) next one more = more x
then_of_one (Err refused) next one more = one

checked_of_one : (p : Profile) (found : Option TableFault) → OfOne (unless found (refusals.Table 0) p)
checked_of_one p None = tt
checked_of_one p (Some fault) = (errors.Table fault, refl)

given_of_one : (found : Result Profile ReadRefusal) → OfOne (tables_given 0 found)
given_of_one (Ok p) = tt
given_of_one (Err reading.Empty) = (errors.Empty, refl)
given_of_one (Err reading.Compressed) = (errors.Compressed, refl)
given_of_one (Err (reading.Wire fault)) = (errors.Wire fault, refl)
given_of_one (Err reading.Memory) = (errors.Empty, refl)

legacy_of_one : (found : Reading Profile) → OfOne (legacy_given 0 found)
legacy_of_one (Ok p) = tt
legacy_of_one (Err fault) = (errors.Legacy fault, refl)

decoded_of_one : (bytes : List ℕ) → OfOne (decoded 0 bytes)
unfolding decoded tables_of
decoded_of_one bytes =
    elim (is_legacy bytes) as (λ own. OfOne (if own then legacy_given 0 (legacy bytes) else (tables_given 0 (read bytes) >>= checked 0))) [
      | true ↦ legacy_of_one (legacy bytes)
      | false ↦ then_of_one (tables_given 0 (read bytes)) (checked 0) (given_of_one (read bytes)) (λ p. checked_of_one p (first_fault p))
    ]

-- a profile alone is refused for its sums alone
small_of_one : (p : Profile) (found : Option ℕ) → OfOne (unless found refusals.TotalTooLarge (merged p []))
small_of_one p None = tt
small_of_one p (Some column) = (errors.TotalTooLarge column, refl)

merged_of_one : (p : Profile) → OfOne (merging (p ∷ []))
unfolding merging
merged_of_one p = small_of_one p (too_large (length p.sample_type) (p ∷ []))

profile_of_one : (bytes : List ℕ) → OfOne (profile_of_file bytes)
unfolding profile_of_file
profile_of_one bytes =
    elim (nat_lt size_limit (length bytes)) as (λ long. OfOne (if long then Err (refusals.TooLong 0) else (decoded 0 bytes >>= (λ p. merging (p ∷ []))))) [
      | true ↦ (errors.TooLong, refl)
      | false ↦ then_of_one (decoded 0 bytes) (λ p. merging (p ∷ [])) (decoded_of_one bytes) merged_of_one
    ]

frames_of_one : (finds : Finds) (p : Profile) (answer : Result (Option (List Bool) × Option (List Bool)) FramesRefused) → OfOne (loaded_or finds p answer)
frames_of_one finds p (Ok verdicts) = tt
frames_of_one finds p (Err frames.DropFrames) = (errors.DropFrames, refl)
frames_of_one finds p (Err frames.KeepFrames) = (errors.KeepFrames, refl)

judged_of_one : (finds : Finds) (old new : Told) (made : Loading Profile) (v : Loading Loaded) → OfOne made → Goes old new (asking.go_on (with_verdicts finds) made) v → OfOne v
unfolding with_verdicts Goes
judged_of_one finds old new (Ok p) v one went =
    let from = goes_then (loaded_or finds p) (judge_load finds p) old new v went in
    subst OfOne (sym from.1) (frames_of_one finds p from.0)
judged_of_one finds old new (Err refused) v one went = subst OfOne (sym went.1) one

-- No other refusal comes of the bytes of one file.
pub asked_of_one : (finds : Finds) (bytes : List ℕ) (old new : Option (List Answer)) (result : Result (Loading Loaded) Stop) → Asked old new (load_bytes finds bytes) (value_of result)
    → IfOk result (λ answer. IfErr answer IsOfOne)
unfolding load_bytes
asked_of_one finds bytes old new (Ok v) went = judged_of_one finds _ _ (profile_of_file bytes) v (profile_of_one bytes) went
asked_of_one finds bytes old new (Err stop) went = tt

-- What holds of the profile that was loaded holds of the answer's.
pub answer_keeps : (P : Loaded → Type 0) (loading : Result (Loading Loaded) Stop) (result : Result Countable LoadError) → outcome_of result ≡ value_of loading
    → IfOk loading (λ made. IfOk made P) → IfOk result (λ l. P l.loaded)
answer_keeps P loading (Err error) is holds = tt
answer_keeps P (Ok (Ok loaded)) (Ok l) is holds = subst P (cc) holds
answer_keeps P (Ok (Err refusal)) (Ok l) is holds = absurd (cc)
answer_keeps P (Err stop) (Ok l) is holds = absurd (cc)
