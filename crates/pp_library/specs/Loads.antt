-- What the bytes of one file load as.
use Rattle.std.specs.Prelude.{◌≡◌, ℕ, List, [], ◌∷◌, length, nat_lt, Option, Some, None, option_map, Result, Ok, Err, if◌then◌else◌}
use Rattle.pp_base.specs.FileMap.{FileMap, content_at, files_of}
use Rattle.pp_base.specs.Judges.{Answer}
use Rattle.pp_desk.specs.declared.input_line.InputLine.{InputLine}
use Rattle.pp_desk.specs.Asking.{Asking, go_on}
use Rattle.pp_desk.specs.Course.{course, does}
use Rattle.pp_desk.specs.Effects.{FromFile}
use Rattle.pp_model.specs.declared.loaded.Loaded.{Loaded}
use Rattle.pp_model.specs.declared.profile.Profile.{Profile}
use Rattle.pp_options.specs.declared.plan.Plan.{Plan}
use Rattle.pp_pattern.specs.Report.{Finds}
use Rattle.pp_load.specs.declared.refusal.LoadRefusal.{LoadRefusal}
use Rattle.pp_load.specs.declared.refusal.LoadRefusal.TheVariants as refusals
use Rattle.pp_load.specs.Alone.{HasOneFile}
use Rattle.pp_load.specs.Combine.{merging}
use Rattle.pp_load.specs.Decode.{decoded}
use Rattle.pp_load.specs.Load.{load}
use Rattle.pp_load.specs.Reads.{size_limit, with_verdicts}
use Rattle.pp_load.specs.Steps.{Loading, ◌>>=◌}
use Rattle.pp_library.specs.declared.countable.Countable.{Countable}
use Rattle.pp_library.specs.declared.load_error.LoadError.{LoadError}
use Rattle.pp_library.specs.declared.load_error.LoadError.TheVariants as errors

-- the profile of a file's bytes, decoded, checked and merged alone, or why there is none
unfoldable pub profile_of_file : List ℕ → Loading Profile
profile_of_file bytes =
    if nat_lt size_limit (length bytes) then Err (refusals.TooLong 0)
    else (decoded 0 bytes >>= (λ p. merging (p ∷ [])))

-- Asks for the own patterns of the profile of a file's bytes, and gives it with what they find.
unfoldable pub load_bytes : Finds → List ℕ → Asking LoadRefusal Loaded
load_bytes finds bytes = go_on (with_verdicts finds) (profile_of_file bytes)

-- the refusal of the one source that the error tells; want of memory is none
abbrev pub refusal_of : LoadError → Option LoadRefusal
refusal_of errors.TooLong = Some (refusals.TooLong 0)
refusal_of errors.Empty = Some (refusals.Empty 0)
refusal_of errors.Compressed = Some (refusals.Compressed 0)
refusal_of (errors.Wire fault) = Some (refusals.Wire 0 fault)
refusal_of (errors.Legacy fault) = Some (refusals.Legacy 0 fault)
refusal_of (errors.Table fault) = Some (refusals.Table 0 fault)
refusal_of (errors.TotalTooLarge column) = Some (refusals.TotalTooLarge column)
refusal_of errors.DropFrames = Some refusals.DropFrames
refusal_of errors.KeepFrames = Some refusals.KeepFrames
refusal_of errors.Memory = None

-- an error tells the refusal
abbrev pub IsOfOne : LoadRefusal → Type 0
IsOfOne refusal = (error : LoadError) × (refusal_of error ≡ Some refusal)

-- what was loaded, or the refusal; nothing where memory was wanting
abbrev pub outcome_of : Result Countable LoadError → Option (Loading Loaded)
outcome_of (Ok l) = Some (Ok l.loaded)
outcome_of (Err error) = option_map Err (refusal_of error)

-- the files of a desk that has these bytes alone, at the empty path
abbrev pub held_files : List ℕ → FileMap
held_files bytes = files_of (([], bytes) ∷ [])

-- The command does the same by whatever words have a file of these bytes as their one source, and no base: it reads the
-- file, and then asks the same patterns and comes to the same profile or refusal.
abbrev pub BytesLoadAsFiles : Type 0
BytesLoadAsFiles =
    (finds : Finds) (plan : Plan) (path bytes : List ℕ)
    (files : FileMap) (locked : List (List ℕ)) (lines : List InputLine) (answers : List Answer)
    → HasOneFile plan path → content_at files path ≡ Some bytes
    → course (load finds plan) files locked lines answers
    ≡ does (FromFile path) (course (load_bytes finds bytes) files locked lines answers)
