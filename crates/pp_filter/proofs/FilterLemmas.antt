-- What is saved by verdicts is what is saved by what the patterns find.
use Rattle.std.proofs.Common.{◌≡◌, sym, ap, ◌∙◌}
use Rattle.std.specs.Prelude.{None, option_map}
use Rattle.pp_model.specs.declared.config.Config.{Config}
use Rattle.pp_model.specs.declared.loaded.Loaded.{Loaded}
use Rattle.pp_model.specs.declared.profile.Profile.{Profile}
use Rattle.pp_model.specs.declared.verdicts.Verdicts.{Verdicts}
use Rattle.pp_model.specs.declared.filtering.Filtering.{Filtering}
use Rattle.pp_model.specs.Rules.{IsCompact}
use Rattle.pp_model.specs.Sizes.{IsCountable}
use Rattle.pp_model.proofs.LoadedLemmas.{same_loaded}
use Rattle.pp_stack.specs.LoadFinders.{finder_by}
use Rattle.pp_stack.proofs.LoadFinderLemmas.{same_judged}
use Rattle.pp_pattern.specs.Load.{load_verdicts}
use Rattle.pp_pattern.specs.Report.{Finds, AreVerdictsOf}
use Rattle.pp_count.specs.Counted.{CanCount}
use Rattle.pp_count.specs.Seeing.{HoldsFilters}
use Rattle.pp_filter.specs.Filtered.{own_finders, filtered_profile, SavesFiltered}

-- The verdicts are what the finders find.
pub filter_holds : (finds : Finds) (l : Loaded) (filtering : Filtering) (v : Verdicts) → AreVerdictsOf finds filtering None l v → IsCompact l.profile
    → HoldsFilters l v filtering (own_finders finds l filtering)
filter_holds finds l filtering v are compact = record {
  found = are.holds (option_map (finder_by l.profile) l.drop) (option_map (finder_by l.profile) l.keep)
      (same_judged l.profile l.drop compact l.drop_fits) (same_judged l.profile l.keep compact l.keep_fits);
  tagfocus = are.tagfocus;
  tagignore = are.tagignore;
}

-- The samples can be counted by them.
pub can_save : (finds : Finds) (l : Loaded) (filtering : Filtering) (v : Verdicts) → AreVerdictsOf finds filtering None l v → IsCountable l.profile
    → CanCount l.profile v filtering None
can_save finds l filtering v are countable = record {
  countable = countable;
  column = tt;
  verdicts = are.fits;
  focus = are.focus_tags;
  ignore = are.ignore_tags;
}

-- There is one way to load a profile with what its patterns find.
pub saves : (finds : Finds) (p : Profile) (config : Config) (l : Loaded) (q : Profile) → l.profile ≡ p → (l.drop, l.keep) ≡ load_verdicts finds l.profile
    → q ≡ filtered_profile finds l config → SavesFiltered finds p config q
saves finds p config l q own found is = λ other same others.
    let alike : (l.drop, l.keep) ≡ (other.drop, other.keep) = found ∙ ap (load_verdicts finds) own ∙ sym others in
    is ∙ ap (λ x. filtered_profile finds x config) (same_loaded l other (own ∙ sym same) (ap (λ v. v.0) alike) (ap (λ v. v.1) alike))
