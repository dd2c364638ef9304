-- The patterns that are asked of a matcher before a profile is filtered, and what comes of their answers.
use Rattle.std.specs.Prelude.{Bool, List, Option, Some, None, option_map, Result, Ok, Err}
use Rattle.pp_desk.specs.Asking.{Asking, ◌>>=◌}
use Rattle.pp_desk.specs.Script as scripts
use Rattle.pp_desk.specs.Script.{Give}
use Rattle.pp_model.specs.declared.config.Config.{Config}
use Rattle.pp_model.specs.declared.loaded.Loaded.{Loaded}
use Rattle.pp_model.specs.declared.profile.Profile.{Profile}
use Rattle.pp_model.specs.declared.verdicts.Verdicts.{Verdicts}
use Rattle.pp_model.specs.declared.filtering.Filtering.{Filtering}
use Rattle.pp_model.specs.Judged.{loaded_of}
use Rattle.pp_pattern.specs.declared.load.FramesRefused.{FramesRefused}
use Rattle.pp_pattern.specs.declared.load.FramesRefused.TheVariants.{DropFrames, KeepFrames}
use Rattle.pp_pattern.specs.declared.report.PatternRefused.{PatternRefused}
use Rattle.pp_pattern.specs.Load.{judge_load, drop_finder, keep_finder}
use Rattle.pp_pattern.specs.Report.{Finds, judge}
use Rattle.pp_pseudo.specs.Basis.{framed_for}
use Rattle.pp_filter.specs.declared.refusal.FilterRefusal.{FilterRefusal}
use Rattle.pp_filter.specs.declared.refusal.FilterRefusal.TheVariants as refusals
use Rattle.pp_filter.specs.declared.refusal.Refused.{Refused}
use Rattle.pp_filter.specs.declared.refusal.Refused.TheVariants.{OfProfile, OfOption}
use Rattle.pp_filter.specs.Filtered.{saved_of}

-- the profile with what its own patterns find, where none of them is refused
abbrev pub loaded_or_refused : Finds → Profile → Result (Option (List Bool) × Option (List Bool)) FramesRefused → Result Loaded Refused
loaded_or_refused finds p (Ok verdicts) = Ok (loaded_of p (drop_finder finds p) (keep_finder finds p))
loaded_or_refused finds p (Err refused) = Err (OfProfile refused)

-- Asks for the profile's own patterns.
unfoldable pub ask_profile_patterns : Finds → Profile → Asking Refused Loaded
ask_profile_patterns finds p = scripts.◌>>=◌ (judge_load finds p) (λ answer. Give (loaded_or_refused finds p answer))

-- the verdicts of the configuration's patterns, where none of them is refused
abbrev pub verdicts_or : Result Verdicts PatternRefused → Result Verdicts Refused
verdicts_or (Ok verdicts) = Ok verdicts
verdicts_or (Err refused) = Err (OfOption refused)

-- Asks for the patterns of the configuration.
unfoldable pub ask_option_patterns : Finds → Loaded → Filtering → Asking Refused Verdicts
ask_option_patterns finds l filtering =
    scripts.◌>>=◌ (judge finds filtering None l.profile) (λ answer. Give (verdicts_or answer))

-- Asks for the patterns of the configuration, and gives the profile that is saved of a loaded one.
unfoldable pub filter_loaded : Finds → Loaded → Filtering → Asking Refused Profile
filter_loaded finds l filtering = do
  found ← ask_option_patterns finds l filtering
  Give (Ok (saved_of finds l filtering))

-- Asks for the profile's own patterns and then for those of the configuration. It gives the profile that is saved; the
-- first pattern that is refused is named, and none is asked after it.
unfoldable pub filter : Finds → Profile → Config → Asking Refused Profile
filter finds p config = do
  l ← ask_profile_patterns finds p
  filter_loaded finds (framed_for l config.presentation) config.filtering

-- the pattern of which the refusal tells; want of memory tells of none
abbrev pub refused_by : FilterRefusal → Option Refused
refused_by refusals.DropFrames = Some (OfProfile DropFrames)
refused_by refusals.KeepFrames = Some (OfProfile KeepFrames)
refused_by (refusals.Pattern option) = Some (OfOption (record { option = option }))
refused_by refusals.Memory = None

-- what was given, or the pattern that was refused; nothing where memory was wanting
abbrev pub filter_outcome : {T : Type 0} → Result T FilterRefusal → Option (Result T Refused)
filter_outcome (Ok given) = Some (Ok given)
filter_outcome (Err refusal) = option_map Err (refused_by refusal)
