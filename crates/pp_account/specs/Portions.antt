-- How many samples end where, and what their values come to.
use Rattle.std.specs.Prelude.{ℕ, pos, Bool, false, not, ◌&&◌, List, length, filter, Option}
use Rattle.std.specs.Option.{option_map_or}
use Rattle.std.specs.Ordering.{int_eq}
use Rattle.pp_model.specs.declared.config.Config.{Config}
use Rattle.pp_model.specs.declared.profile.Sample.{Sample}
use Rattle.pp_model.specs.declared.profile.Profile.{Profile}
use Rattle.pp_model.specs.declared.verdicts.Slot.{Slot}
use Rattle.pp_model.specs.declared.verdicts.Slot.TheVariants as slots
use Rattle.pp_model.specs.declared.filtering.Filtering.{Filtering}
use Rattle.pp_model.specs.declared.presentation.Presentation.{Presentation}
use Rattle.pp_model.specs.Finders.{Finders}
use Rattle.pp_stack.specs.Filters.{has_no_items}
use Rattle.pp_count.specs.Base.{selected_all}
use Rattle.pp_count.specs.Column.{selected}
use Rattle.pp_count.specs.Counts.{filtered_samples}
use Rattle.pp_count.specs.Seeing.{seen}
use Rattle.pp_account.specs.declared.portion.Portion.{Portion}
use Rattle.pp_account.specs.declared.portions.Portions.{Portions as PortionsOf}
use Rattle.pp_account.specs.First.{first_filter, is_filter}

-- how many samples these are, and what their selected values come to
abbrev pub portion_of : Presentation → Option ℕ → List Sample → Portion
portion_of presentation column samples = record {
  count = length samples;
  value = selected_all column presentation.divide_by samples;
}

-- the samples that this filter is the first to drop
abbrev pub dropped_samples : Profile → Finders → Filtering → Slot → List Sample → List Sample
dropped_samples p f filtering slot samples =
    filter (λ s. is_filter slot (first_filter p f filtering s)) samples

-- the filters leave the sample, its selected value isn't 0, and no frame of it counts
abbrev pub is_bare : Profile → Finders → Config → Option ℕ → Sample → Bool
is_bare p f config column s =
    option_map_or (λ x. not (int_eq x.value (pos 0)) && has_no_items x.keys)
    (seen p f config column s) false

-- those of the samples that the filters leave without a frame
abbrev pub bare_samples : Profile → Finders → Config → Option ℕ → List Sample → List Sample
bare_samples p f config column samples = filter (is_bare p f config column) samples

-- Where these samples end.
abbrev pub portions_of : Profile → Finders → Config → Option ℕ → List Sample → PortionsOf
portions_of p f config column samples = record {
  loaded = portion_of config.presentation column samples;
  ignore = portion_of config.presentation column
      (dropped_samples p f config.filtering slots.Ignore samples);
  focus = portion_of config.presentation column
      (dropped_samples p f config.filtering slots.Focus samples);
  hide = portion_of config.presentation column
      (dropped_samples p f config.filtering slots.Hide samples);
  show = portion_of config.presentation column
      (dropped_samples p f config.filtering slots.Show samples);
  show_from = portion_of config.presentation column
      (dropped_samples p f config.filtering slots.ShowFrom samples);
  tagfocus = portion_of config.presentation column
      (dropped_samples p f config.filtering slots.TagFocus samples);
  tagignore = portion_of config.presentation column
      (dropped_samples p f config.filtering slots.TagIgnore samples);
  left = portion_of config.presentation column (filtered_samples p f config.filtering samples);
  bare = portion_of config.presentation column (bare_samples p f config column samples);
}
