-- What may be said of verdicts by their lengths alone.
use Rattle.std.specs.Prelude.{ℕ, Option}
use Rattle.pp_model.specs.declared.loaded.Loaded.{Loaded}
use Rattle.pp_model.specs.declared.profile.Profile.{Profile}
use Rattle.pp_model.specs.declared.verdicts.Verdicts.{Verdicts}
use Rattle.pp_model.specs.declared.filtering.Filtering.{Filtering}
use Rattle.pp_model.specs.Finders.{Finders}
use Rattle.pp_model.specs.Rules.{NoRuleFails, IsCompact}
use Rattle.pp_tags.specs.TagFilters.{FitTagFilter, filter_in_force}
use Rattle.pp_count.specs.Counted.{CanCount}
use Rattle.pp_count.specs.Seeing.{HoldsFilters}

-- Each list of a tag filter that is in force has a truth value for each text, or without a name for each tag.
pub record FitTags (p : Profile) (v : Verdicts) (filtering : Filtering) : Type 0 where
  pub focus : FitTagFilter p v.tag (filter_in_force filtering.tagfocus) v.tagfocus
  pub ignore : FitTagFilter p v.tag (filter_in_force filtering.tagignore) v.tagignore

-- Verdicts that a report can be counted by are what some patterns find, whatever truth values they have.
abbrev pub VerdictsAreFound : Type 0
VerdictsAreFound =
    (l : Loaded) (v : Verdicts) (filtering : Filtering) (column : Option ℕ) → NoRuleFails l.profile → IsCompact l.profile
    → CanCount l.profile v filtering column → FitTags l.profile v filtering
    → (f : Finders) × HoldsFilters l v filtering f
