-- Portions with one sample more.
use Rattle.std.proofs.Common.{◌≡◌, ℕ, ◌+◌, ◌<◌, ◌≤◌, ◌^◌, ◌%◌, Bool, true, false, cond, not, ◌&&◌, ℤ, pos, ◌+ℤ◌, nat_abs, List, [], ◌∷◌, ◌++◌, length, take, drop, get_or, map, refl, sym, ap, ◌∙◌, w64, arith, length-append}
use Rattle.std.specs.Prelude.{Option, Some, None, is_some, option_map}
use Rattle.std.specs.Int.{int_wrap}
use Rattle.std.specs.List.{filter, slice_get, sum_by}
use Rattle.std.specs.Option.{option_map_or}
use Rattle.std.specs.Ordering.{int_eq}
use Rattle.std.proofs.lemmas.Option.{none-some, same_Some, get_or_from_slice_get}
use Rattle.std.proofs.Math.Nat.{mod-eq_of_lt}
use Rattle.std.proofs.lemmas.Int.{int_wrap_fits, fits_signed_from_abs}
use Rattle.std.proofs.lemmas.List.{append-nil, take_more, take_all, length-take-le}
use Rattle.std.proofs.lemmas.List.Elements.{filter-append}
use Rattle.std.proofs.lemmas.List.Sums.{sum_by-append, sum_by-cons, sum_by-take-drop}
use Rattle.pp_base.proofs.Sums.{triangle}
use Rattle.pp_model.specs.declared.config.Config.{Config}
use Rattle.pp_model.specs.declared.frame.Frame.{Frame}
use Rattle.pp_model.specs.declared.profile.Sample.{Sample}
use Rattle.pp_model.specs.declared.profile.Profile.{Profile}
use Rattle.pp_model.specs.declared.verdicts.Slot.{Slot}
use Rattle.pp_model.specs.declared.verdicts.Slot.TheVariants as slots
use Rattle.pp_model.specs.declared.presentation.Presentation.{Presentation}
use Rattle.pp_model.specs.Finders.{Finders}
use Rattle.pp_model.specs.FrameTexts.{Written}
use Rattle.pp_model.specs.Values.{no_sample}
use Rattle.pp_stack.specs.Filters.{has_no_items}
use Rattle.pp_stack.specs.Runs.{kept_if}
use Rattle.pp_count.specs.declared.scope.Scope.{Scope}
use Rattle.pp_count.specs.Base.{selected_all}
use Rattle.pp_count.specs.Column.{selected}
use Rattle.pp_count.specs.Counts.{samples_at}
use Rattle.pp_count.specs.Scope.{samples_in_scope}
use Rattle.pp_count.specs.Seeing.{filtered_stack, keys_of_stack, seen_with, absolute_all}
use Rattle.pp_count.proofs.Based.{selected-append, selected_within}
use Rattle.pp_count.proofs.Totals.{filter_size}
use Rattle.pp_account.specs.declared.portion.Portion.{Portion}
use Rattle.pp_account.specs.declared.portions.Portions.{Portions as PortionsOf}
use Rattle.pp_account.specs.Adding.{portion_plus, portion_plus_if, with_sample_value}
use Rattle.pp_account.specs.First.{first_filter, is_filter}
use Rattle.pp_account.specs.Portions.{portion_of, portions_of, is_bare}
use Rattle.pp_account.proofs.Firsts.{left_or_dropped}

module _ (presentation : Presentation) (column : Option ℕ) where
  abbrev value : Sample → ℤ
  value s = selected column presentation.divide_by s

  -- one sample more
  portion_push : (ss : List Sample) (s : Sample) → length ss + 1 < 2 ^ 64 → nat_abs (selected_all column presentation.divide_by ss) + nat_abs (value s) < 2 ^ 63
      → portion_of presentation column (ss ++ s ∷ []) ≡ portion_plus (portion_of presentation column ss) (value s)
  portion_push ss s few fits = λ i. record {
    count = (length-append ss (s ∷ []) ∙ sym (mod-eq_of_lt few)) i;
    value = (selected-append column presentation.divide_by ss s
        ∙ sym (int_wrap_fits w64 (selected_all column presentation.divide_by ss +ℤ value s)
        (fits_signed_from_abs w64 (selected_all column presentation.divide_by ss +ℤ value s) (omega (arith, fits, triangle (selected_all column presentation.divide_by ss) (value s)))))) i;
  }

  module _ (ss : List Sample) (s : Sample) (few : length ss + 1 < 2 ^ 64) (fits : absolute_all column presentation.divide_by ss + nat_abs (value s) < 2 ^ 63) where
    -- of those that pass a test
    pub portion_more : (t : Sample → Bool) → portion_of presentation column (filter t (ss ++ s ∷ [])) ≡ portion_plus_if (t s) (portion_of presentation column (filter t ss)) (value s)
    portion_more t =
        ap (portion_of presentation column) (filter-append t ss (s ∷ []))
        ∙ elim (t s) as (λ b. portion_of presentation column (filter t ss ++ cond b (s ∷ []) []) ≡ portion_plus_if b (portion_of presentation column (filter t ss)) (value s)) [
          | true ↦ portion_push (filter t ss) s (omega (arith, few, count_within))
              (omega (arith, fits, selected_within column presentation.divide_by (filter t ss), filter_size (λ x. nat_abs (value x)) t ss))
          | false ↦ ap (portion_of presentation column) (append-nil (filter t ss))
        ] where
          count_within : length (filter t ss) ≤ length ss
          count_within = shorter ss where
            shorter : (xs : List Sample) → length (filter t xs) ≤ length xs
            shorter [] = omega arith
            shorter (x ∷ xs) = elim (t x) as (λ b. length (cond b (x ∷ filter t xs) (filter t xs)) ≤ length (x ∷ xs)) [
              | true ↦ omega (arith, shorter xs)
              | false ↦ omega (arith, shorter xs)
            ]

    pub all_more : portion_of presentation column (ss ++ s ∷ []) ≡ portion_plus (portion_of presentation column ss) (value s)
    all_more = portion_push ss s few (omega (arith, fits, selected_within column presentation.divide_by ss))

-- where a sample ends, by its first filter
ended : (first : Option Slot) (bare : Bool) (v : ℤ) (d : PortionsOf)
    → record {
      loaded = portion_plus d.loaded v;
      ignore = portion_plus_if (is_filter slots.Ignore first) d.ignore v;
      focus = portion_plus_if (is_filter slots.Focus first) d.focus v;
      hide = portion_plus_if (is_filter slots.Hide first) d.hide v;
      show = portion_plus_if (is_filter slots.Show first) d.show v;
      show_from = portion_plus_if (is_filter slots.ShowFrom first) d.show_from v;
      tagfocus = portion_plus_if (is_filter slots.TagFocus first) d.tagfocus v;
      tagignore = portion_plus_if (is_filter slots.TagIgnore first) d.tagignore v;
      left = portion_plus_if (not (is_some first)) d.left v;
      bare = portion_plus_if bare d.bare v;
    } ≡ with_sample_value first bare v d
ended None bare v d = refl
ended (Some slots.Focus) bare v d = refl
ended (Some slots.Ignore) bare v d = refl
ended (Some slots.Hide) bare v d = refl
ended (Some slots.Show) bare v d = refl
ended (Some slots.ShowFrom) bare v d = refl
ended (Some slots.TagFocus) bare v d = refl
ended (Some slots.TagIgnore) bare v d = refl
ended (Some slots.PruneFrom) bare v d = refl
ended (Some slots.TagShow) bare v d = refl
ended (Some slots.TagHide) bare v d = refl
ended (Some slots.Own) bare v d = refl

module _ (p : Profile) (f : Finders) (config : Config) (column : Option ℕ) where
  -- the portions with one sample more
  pub portions_push : (ss : List Sample) (s : Sample) → length ss + 1 < 2 ^ 64 → absolute_all column config.presentation.divide_by ss + nat_abs (selected column config.presentation.divide_by s) < 2 ^ 63
      → portions_of p f config column (ss ++ s ∷ [])
      ≡ with_sample_value (first_filter p f config.filtering s) (is_bare p f config column s) (selected column config.presentation.divide_by s) (portions_of p f config column ss)
  portions_push ss s few fits =
      let at = λ (slot : Slot). portion_more config.presentation column ss s few fits (λ x. is_filter slot (first_filter p f config.filtering x)) in
      let left = portion_more config.presentation column ss s few fits (λ x. is_some (filtered_stack p f config.filtering x))
      ∙ ap (λ b. portion_plus_if b (portions_of p f config column ss).left (selected column config.presentation.divide_by s)) (left_or_dropped p f config.filtering s) in
      (λ i. record {
        loaded = all_more config.presentation column ss s few fits i;
        ignore = at slots.Ignore i;
        focus = at slots.Focus i;
        hide = at slots.Hide i;
        show = at slots.Show i;
        show_from = at slots.ShowFrom i;
        tagfocus = at slots.TagFocus i;
        tagignore = at slots.TagIgnore i;
        left = left i;
        bare = portion_more config.presentation column ss s few fits (is_bare p f config column) i;
      })
      ∙ ended (first_filter p f config.filtering s) (is_bare p f config column s) (selected column config.presentation.divide_by s) (portions_of p f config column ss)

  -- those of the first samples, with one more
  pub portions_more : (ss : List Sample) (i : ℕ) → i < length ss → length ss < 2 ^ 32 → absolute_all column config.presentation.divide_by ss < 2 ^ 63
      → portions_of p f config column (take (i + 1) ss)
      ≡ with_sample_value (first_filter p f config.filtering (get_or ss i no_sample)) (is_bare p f config column (get_or ss i no_sample))
      (selected column config.presentation.divide_by (get_or ss i no_sample)) (portions_of p f config column (take i ss))
  portions_more ss i here few fits =
      let size : Sample → ℕ = λ x. nat_abs (selected column config.presentation.divide_by x) in
      let more : take (i + 1) ss ≡ take i ss ++ get_or ss i no_sample ∷ [] = take_more ss i no_sample here in
      ap (portions_of p f config column) more
      ∙ portions_push (take i ss) (get_or ss i no_sample) (omega (arith, few, here, length-take-le i ss))
      (omega (arith, fits, sum_by-take-drop size ss (i + 1), ap (sum_by size) more, sum_by-append size (take i ss) (get_or ss i no_sample ∷ []), sum_by-cons size (get_or ss i no_sample) []))

-- a sample of which this was seen is left without a frame
bare_by : (p : Profile) (config : Config) (column : Option ℕ) (s : Sample) (left : Option (List Frame)) (kept : Bool) (keys : List Written)
    → option_map (keys_of_stack p config.grouping) left ≡ kept_if kept keys
    → (kept && (not (int_eq (selected column config.presentation.divide_by s) (pos 0)) && has_no_items keys))
    ≡ option_map_or (λ x. not (int_eq x.value (pos 0)) && has_no_items x.keys) (option_map (seen_with p config column s) left) false
bare_by p config column s None true keys is = absurd (none-some keys is)
bare_by p config column s None false keys is = refl
bare_by p config column s (Some stack) true keys is = ap (λ ks. not (int_eq (selected column config.presentation.divide_by s) (pos 0)) && has_no_items ks) (sym (same_Some _ _ is))
bare_by p config column s (Some stack) false keys is = absurd (none-some _ (sym is))

has_none : {A : Type 0} (f : A → Written) (xs : List A) → has_no_items (map f xs) ≡ has_no_items xs
has_none f [] = refl
has_none f (x ∷ xs) = refl

pub bare_is : {A : Type 0} (p : Profile) (f : Finders) (config : Config) (column : Option ℕ) (s : Sample) (name : A → Written) (kept bare : Bool) (value : ℤ) (keys : List A)
    → option_map (keys_of_stack p config.grouping) (filtered_stack p f config.filtering s) ≡ kept_if kept (map name keys) → value ≡ selected column config.presentation.divide_by s
    → bare ≡ (kept && (not (int_eq value (pos 0)) && has_no_items keys)) → bare ≡ is_bare p f config column s
bare_is p f config column s name kept bare value keys seen value_is is =
    is ∙ (λ i. kept && (not (int_eq (value_is i) (pos 0)) && sym (has_none name keys) i))
    ∙ bare_by p config column s (filtered_stack p f config.filtering s) kept (map name keys) seen

-- the portions of the samples so far, with the next one
pub next_portions : (p : Profile) (f : Finders) (config : Config) (column : Option ℕ) (ss : List Sample) (i : ℕ) (s : Sample) (old new : PortionsOf)
    → i < length ss → length ss < 2 ^ 32 → absolute_all column config.presentation.divide_by ss < 2 ^ 63 → slice_get ss i ≡ Some s
    → old ≡ portions_of p f config column (take i ss)
    → new ≡ with_sample_value (first_filter p f config.filtering s) (is_bare p f config column s) (selected column config.presentation.divide_by s) old
    → new ≡ portions_of p f config column (take (i + 1) ss)
next_portions p f config column ss i s old new here few fits there so_far is =
    let more : Sample → PortionsOf = λ x. with_sample_value (first_filter p f config.filtering x) (is_bare p f config column x) (selected column config.presentation.divide_by x) (portions_of p f config column (take i ss)) in
    is ∙ ap (with_sample_value (first_filter p f config.filtering s) (is_bare p f config column s) (selected column config.presentation.divide_by s)) so_far
    ∙ sym (portions_more p f config column ss i here few fits ∙ ap more (get_or_from_slice_get ss i s no_sample there))

-- the samples of a scope in which none are chosen
pub scope_all : (scope : Scope) → scope.chosen ≡ None → samples_in_scope scope ≡ scope.l.now.profile.sample
scope_all scope whole = ap (λ o. option_map_or (samples_at scope.l.now.profile) (option_map (λ numbers. numbers.now) o) scope.l.now.profile.sample) whole
