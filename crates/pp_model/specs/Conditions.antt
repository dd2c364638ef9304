-- What belongs to a profile: its samples, columns, frames, and lists of verdicts.
use Rattle.std.specs.Prelude.{◌≡◌, ℕ, ◌<◌, List, [], length, slice_index_or, Option, MatchOption, ⊤, Bool, false, All, Contains}
use Rattle.pp_model.specs.declared.profile.Sample.{Sample}
use Rattle.pp_model.specs.declared.profile.Location.{Location}
use Rattle.pp_model.specs.declared.profile.Profile.{Profile}
use Rattle.pp_model.specs.declared.frame.Frame.{Frame}
use Rattle.pp_model.specs.declared.verdicts.Verdicts.{Verdicts}
use Rattle.pp_model.specs.Rules.{location_ids}

-- each location of the sample is one of the profile
abbrev pub RefersTo : Profile → Sample → Type 0
RefersTo p s = All (λ id. Contains (location_ids p) id) s.location_id

-- the sample is one of the profile
abbrev pub IsSampleOf : Profile → Sample → Type 0
IsSampleOf p s = Contains p.sample s

-- the column, where one is given, is the place of a sample type
abbrev pub IsColumnOf : Profile → Option ℕ → Type 0
IsColumnOf p column = MatchOption column ⊤ (λ c. c < length p.sample_type)

-- a location without a mapping, an address or lines
abbrev pub no_location : Location
no_location = record { id = 0; mapping_id = 0; address = 0; line = []; folded = false }

-- the location at the place
abbrev pub location_at : Profile → ℕ → Location
location_at p place = slice_index_or p.location place no_location

-- the row is a place among the lines, or there is neither a row nor a line
abbrev pub IsRowOf : {A : Type 0} → List A → Option ℕ → Type 0
IsRowOf lines row = MatchOption row (lines ≡ []) (λ r. r < length lines)

-- the frame's location is one of the profile, and its row one of that location's
pub record IsFrameOf (p : Profile) (f : Frame) : Type 0 where
  pub location : f.location < length p.location
  pub row : IsRowOf (location_at p f.location).line f.row

-- each frame is one of the profile
abbrev pub IsStackOf : Profile → List Frame → Type 0
IsStackOf p stack = All (IsFrameOf p) stack

-- the list of verdicts, where it is in force, has one per text
abbrev pub HasOnePerText : Profile → Option (List Bool) → Type 0
HasOnePerText p found = MatchOption found ⊤ (λ verdicts. length verdicts ≡ length p.text)

-- The lists of a pattern each have one verdict per text. The lists of the parts of a tag filter are not spoken of.
pub record HasVerdicts (p : Profile) (v : Verdicts) : Type 0 where
  pub focus : HasOnePerText p v.focus
  pub ignore : HasOnePerText p v.ignore
  pub hide : HasOnePerText p v.hide
  pub show : HasOnePerText p v.show
  pub show_from : HasOnePerText p v.show_from
  pub prune_from : HasOnePerText p v.prune_from
  pub tagshow : HasOnePerText p v.tagshow
  pub taghide : HasOnePerText p v.taghide
  pub own : HasOnePerText p v.own
