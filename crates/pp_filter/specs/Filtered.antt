-- What the filters of a configuration leave of a profile.
use Rattle.std.specs.Prelude.{◌≡◌, None, option_map}
use Rattle.pp_model.specs.declared.config.Config.{Config}
use Rattle.pp_model.specs.declared.loaded.Loaded.{Loaded}
use Rattle.pp_model.specs.declared.profile.Profile.{Profile}
use Rattle.pp_model.specs.declared.filtering.Filtering.{Filtering}
use Rattle.pp_model.specs.Finders.{Finders}
use Rattle.pp_stack.specs.LoadFinders.{finder_by}
use Rattle.pp_pattern.specs.Load.{load_verdicts}
use Rattle.pp_pattern.specs.Report.{Finds, finders_of}
use Rattle.pp_pseudo.specs.Basis.{framed_for}
use Rattle.pp_dump.specs.Saved.{saved}

-- what the patterns find: those of the configuration, and the profile's own two
abbrev pub own_finders : Finds → Loaded → Filtering → Finders
own_finders finds l filtering =
    finders_of finds filtering None (option_map (finder_by l.profile) l.drop)
    (option_map (finder_by l.profile) l.keep)

-- the profile that is saved of a loaded one
abbrev pub saved_of : Finds → Loaded → Filtering → Profile
saved_of finds l filtering = saved l.profile (own_finders finds l filtering) filtering

-- the profile that the filters leave of the loaded one, which first gets the frames that the configuration asks for
abbrev pub filtered_profile : Finds → Loaded → Config → Profile
filtered_profile finds l config = saved_of finds (framed_for l config.presentation) config.filtering

-- The profile is what is saved of the other one, once that is loaded with what its own patterns find.
abbrev pub SavesFiltered : Finds → Profile → Config → Profile → Type 0
SavesFiltered finds p config q =
    (l : Loaded) → l.profile ≡ p → (l.drop, l.keep) ≡ load_verdicts finds p
    → q ≡ filtered_profile finds l config
