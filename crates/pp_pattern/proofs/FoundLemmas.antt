-- What patterns find of a profile's texts, as lists of verdicts.
use Rattle.std.proofs.Common.{◌≡◌, ℕ, List, [], ◌∷◌, map, refl, sym, ap, ◌∙◌}
use Rattle.std.specs.Prelude.{Option, None, Some, option_map, unwrap_or}
use Rattle.std.proofs.lemmas.List.{length-map}
use Rattle.std.proofs.lemmas.Simd.{map-map}
use Rattle.pp_model.specs.declared.loaded.Loaded.{Loaded}
use Rattle.pp_model.specs.declared.profile.Profile.{Profile}
use Rattle.pp_model.specs.declared.verdicts.Tag.{Tag}
use Rattle.pp_model.specs.declared.filtering.Filtering.{Filtering}
use Rattle.pp_model.specs.Conditions.{HasOnePerText}
use Rattle.pp_model.specs.Finders.{Finder}
use Rattle.pp_model.specs.Judged.{judged}
use Rattle.pp_tags.specs.declared.tag_filter.TagFilter.{TagFilter}
use Rattle.pp_tags.specs.TagFilters.{filter_in_force, found_by, subjects, AreTagVerdicts, HasItsTags}
use Rattle.pp_tags.specs.TagPairs.{tag_pairs}
use Rattle.pp_tags.proofs.EachLemmas.{found_by_text}
use Rattle.pp_pattern.specs.Patterns.{finder_in_force, part_finder}
use Rattle.pp_pattern.specs.Report.{Finds, found_in, parts_found, filter_finders, tags_for, verdicts_of, AreVerdictsOf}

-- what a pattern finds of the texts, where it is in force, is what is judged of it
pub found_is_judged : (p : Profile) (pattern : Option Finder) → option_map (λ find. map find p.text) pattern ≡ judged p pattern
found_is_judged p None = refl
found_is_judged p (Some find) = refl

-- one truth value a text
one_per_text : (finds : Finds) (p : Profile) (pattern : List ℕ) → HasOnePerText p (found_in finds p.text pattern)
one_per_text finds p [] = tt
one_per_text finds p (b ∷ bs) = length-map p.text _

-- what the parts of a filter find
are_parts : (finds : Finds) (p : Profile) (tags : List Tag) (filter : Option TagFilter) →
    AreTagVerdicts p tags filter (filter_finders finds filter) (parts_found finds p tags filter)
are_parts finds p tags filter = λ f is.
    ap (parts_found finds p tags) is
    ∙ sym (map-map (λ find. map find (subjects p tags f.name)) (part_finder finds) f.parts)
    ∙ sym (found_by_text p tags f.name (map (part_finder finds) f.parts))
    ∙ ap (λ o. found_by p tags f.name (filter_finders finds o)) (sym is)

-- a filter that is in force has the profile's tags
has_tags_first : (p : Profile) (focus ignore : Option TagFilter) → HasItsTags p (tags_for p focus ignore) focus
has_tags_first p focus ignore = λ f is _. ap (λ o. tags_for p o ignore) is

either_way : (p : Profile) (focus : Option TagFilter) (f : TagFilter) → tags_for p focus (Some f) ≡ tag_pairs p
either_way p None f = refl
either_way p (Some g) f = refl

has_tags_second : (p : Profile) (focus ignore : Option TagFilter) → HasItsTags p (tags_for p focus ignore) ignore
has_tags_second p focus ignore = λ f is _. ap (tags_for p focus) is ∙ either_way p focus f

-- The verdicts of a report are what its patterns find.
pub verdicts_law : (finds : Finds) (filtering : Filtering) (own : Option (List ℕ)) (l : Loaded) →
    AreVerdictsOf finds filtering own l (verdicts_of finds filtering own l.profile)
verdicts_law finds filtering own l = record {
  holds = λ drop keep dropped kept. record {
    drop = dropped;
    keep = kept;
    focus = found_is_judged l.profile (finder_in_force finds filtering.focus);
    ignore = found_is_judged l.profile (finder_in_force finds filtering.ignore);
    hide = found_is_judged l.profile (finder_in_force finds filtering.hide);
    show = found_is_judged l.profile (finder_in_force finds filtering.show);
    show_from = found_is_judged l.profile (finder_in_force finds filtering.show_from);
    prune_from = found_is_judged l.profile (finder_in_force finds filtering.prune_from);
    tagshow = found_is_judged l.profile (finder_in_force finds filtering.tagshow);
    taghide = found_is_judged l.profile (finder_in_force finds filtering.taghide);
    own = found_is_judged l.profile (finder_in_force finds (unwrap_or own []));
  };
  fits = record {
    focus = one_per_text finds l.profile filtering.focus;
    ignore = one_per_text finds l.profile filtering.ignore;
    hide = one_per_text finds l.profile filtering.hide;
    show = one_per_text finds l.profile filtering.show;
    show_from = one_per_text finds l.profile filtering.show_from;
    prune_from = one_per_text finds l.profile filtering.prune_from;
    tagshow = one_per_text finds l.profile filtering.tagshow;
    taghide = one_per_text finds l.profile filtering.taghide;
    own = one_per_text finds l.profile (unwrap_or own []);
  };
  tagfocus = are_parts finds l.profile _ (filter_in_force filtering.tagfocus);
  tagignore = are_parts finds l.profile _ (filter_in_force filtering.tagignore);
  focus_tags = has_tags_first l.profile (filter_in_force filtering.tagfocus) (filter_in_force filtering.tagignore);
  ignore_tags = has_tags_second l.profile (filter_in_force filtering.tagfocus) (filter_in_force filtering.tagignore);
}
