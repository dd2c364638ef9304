-- What the filters of a report need beside its verdicts.
use Rattle.std.specs.Prelude.{◌≡◌, Bool, false, List, Option}
use Rattle.std.specs.Option.{ForSome}
use Rattle.pp_model.specs.declared.frame.Frame.{Frame}
use Rattle.pp_model.specs.declared.profile.Profile.{Profile}
use Rattle.pp_model.specs.declared.verdicts.Verdicts.{Verdicts}
use Rattle.pp_model.specs.declared.filtering.Filtering.{Filtering}
use Rattle.pp_model.specs.Conditions.{IsFrameOf}
use Rattle.pp_model.specs.Finders.{Finder}
use Rattle.pp_model.specs.FrameTexts.{written}
use Rattle.pp_stack.specs.Filters.{AreVerdicts, finds_frame}
use Rattle.pp_stack.specs.Tables.{AreTables}
use Rattle.pp_tags.specs.TagFilters.{HasItsTags, filter_in_force}
use Rattle.pp_count.specs.declared.filters.Filters.{Filters}
use Rattle.pp_count.specs.declared.filters.PatternReach.{PatternReach}

-- a pattern with these verdicts on texts finds no frame of the profile
abbrev pub FindsNoFrame : Profile → List Bool → Type 0
FindsNoFrame p texts =
    (find : Finder) → AreVerdicts p texts find → (x : Frame) → IsFrameOf p x → finds_frame find (written p x) ≡ false

-- a pattern in force that is said to reach no frame finds none
abbrev pub IsReach : Profile → Option (List Bool) → Bool → Type 0
IsReach p texts reaches = reaches ≡ false → ForSome texts (FindsNoFrame p)

-- Each pattern that is said to reach no frame finds none.
pub record AreReached (p : Profile) (v : Verdicts) (reach : PatternReach) : Type 0 where
  pub focus : IsReach p v.focus reach.focus
  pub ignore : IsReach p v.ignore reach.ignore
  pub hide : IsReach p v.hide reach.hide
  pub show : IsReach p v.show reach.show
  pub show_from : IsReach p v.show_from reach.show_from

-- The tag filters are those of the configuration, with their tags, and the tables and what they reach are of the
-- verdicts.
pub record AreFilters (p : Profile) (v : Verdicts) (filtering : Filtering) (filters : Filters)
    : Type 0 where
  pub focus : filters.tagfocus ≡ filter_in_force filtering.tagfocus
  pub ignore : filters.tagignore ≡ filter_in_force filtering.tagignore
  pub focus_tags : HasItsTags p v.tag filters.tagfocus
  pub ignore_tags : HasItsTags p v.tag filters.tagignore
  pub tables : AreTables p v filters.tables
  pub reach : AreReached p v filters.reach
