-- What a report sees of samples follows from their stacks. So the sums of a saved profile are those of the samples that
-- the filters left.
use Rattle.std.proofs.Common.{◌≡◌, ℕ, suc, ◌/◌, ℤ, pos, negsuc, neg_ℤ, ◌+ℤ◌, Bool, List, [], ◌∷◌, map, get_or, refl, sym, ap, ◌∙◌, arith}
use Rattle.std.specs.Prelude.{Option, Some, None, option_map, int_div}
use Rattle.std.specs.List.{filter_map, cons_option}
use Rattle.std.proofs.lemmas.Simd.{map-map}
use Rattle.pp_model.specs.declared.config.Config.{Config}
use Rattle.pp_model.specs.declared.grouping.Grain.{Grain}
use Rattle.pp_model.specs.declared.frame.Frame.{Frame}
use Rattle.pp_model.specs.declared.profile.Sample.{Sample}
use Rattle.pp_model.specs.declared.profile.Profile.{Profile}
use Rattle.pp_model.specs.Finders.{Finders, no_finders}
use Rattle.pp_model.specs.FrameTexts.{Written, written}
use Rattle.pp_model.specs.Sizes.{value_in}
use Rattle.pp_grain.specs.Keys.{key_texts}
use Rattle.pp_count.specs.Seeing.{counted_frames, keys_of_stack, filtered_stack, seen_with, seen, seen_samples}
use Rattle.pp_count.specs.Sums.{Seen, sum_where}
use Rattle.pp_merge.specs.Totals.{value_passing, sum_passing}
use Rattle.pp_restack.specs.Stacks.{by_place}
use Rattle.pp_dump.specs.Stacks.{PlaceText, StackText, left_place, left_stack, left_stacks, whole_stacks, KeepsStacks}
use Rattle.pp_dump.specs.Unfiltered.{KeepsSums}
use Rattle.pp_dump.proofs.CountedPlaces.{counted_places, counted_stack}

-- a number divided by 1
pub quotient_one : (z : ℤ) → int_div z (pos 1) ≡ z
quotient_one (pos n) = let e : n / 1 ≡ n = omega arith in ap pos e
quotient_one (negsuc n) = let e : suc n / 1 ≡ suc n = omega arith in ap (λ m. neg_ℤ (pos m)) e

module _ (grain : Grain) (showcolumns noinlines : Bool) where
  -- the keys of a stack, leaf first
  abbrev pub keys_of_text : StackText → List Written
  keys_of_text s = map (key_texts grain showcolumns) (counted_places noinlines (map (λ (place : PlaceText). place.frames) s.places))

  module _ (column : ℕ) where
    -- the sample as a report sees it
    abbrev pub seen_text : StackText × List ℤ → Seen Written
    seen_text s = record { value = get_or s.1 column (pos 0); keys = keys_of_text s.0 }

    -- a sum over the samples that are seen so
    pub sum_seen : (test : List Written → Bool) (xs : List (StackText × List ℤ)) → sum_where test (map seen_text xs) ≡ sum_passing (λ s. test (keys_of_text s)) column xs
    sum_seen test [] = refl
    sum_seen test (x ∷ xs) = ap (λ sum. value_passing (λ s. test (keys_of_text s)) column x +ℤ sum) (sum_seen test xs)

module _ (p : Profile) (f : Finders) (config : Config) (column : ℕ) (undivided : config.presentation.divide_by ≡ 1) where
  abbrev as_seen : StackText × List ℤ → Seen Written
  as_seen = seen_text config.grouping.grain config.grouping.showcolumns config.grouping.noinlines column

  keys_are : (stack : List Frame) → keys_of_stack p config.grouping stack
      ≡ map (key_texts config.grouping.grain config.grouping.showcolumns) (counted_places config.grouping.noinlines (map (λ (place : PlaceText). place.frames) (map (left_place p) (by_place stack))))
  keys_are stack =
      sym (map-map (key_texts config.grouping.grain config.grouping.showcolumns) (written p) (counted_frames config.grouping.noinlines stack))
      ∙ ap (map (key_texts config.grouping.grain config.grouping.showcolumns)) (counted_stack p config.grouping.noinlines stack)
      ∙ ap (λ frames. map (key_texts config.grouping.grain config.grouping.showcolumns) (counted_places config.grouping.noinlines frames)) (sym (map-map (λ (place : PlaceText). place.frames) (left_place p) (by_place stack)))

  one_seen : (s : Sample) (o : Option (List Frame)) → option_map (seen_with p config (Some column) s) o ≡ option_map as_seen (option_map (left_stack p f s) o)
  one_seen s None = refl
  one_seen s (Some stack) = (λ i. Some (record {
    value = (ap (λ (n : ℕ). int_div (value_in s column) (pos n)) undivided ∙ quotient_one (value_in s column)) i;
    keys = keys_are stack i;
  }))

  one_more : (o : Option (StackText × List ℤ)) (rest : List (StackText × List ℤ)) → cons_option (option_map as_seen o) (map as_seen rest) ≡ map as_seen (cons_option o rest)
  one_more None rest = refl
  one_more (Some x) rest = refl

  -- the samples that the filters leave, as the report sees them
  pub seen_left : (xs : List Sample) → filter_map (seen p f config (Some column)) xs ≡ map as_seen (filter_map (λ s. option_map (left_stack p f s) (filtered_stack p f config.filtering s)) xs)
  seen_left [] = refl
  seen_left (s ∷ xs) =
      (λ i. cons_option (one_seen s (filtered_stack p f config.filtering s) i) (seen_left xs i))
      ∙ one_more (option_map (left_stack p f s) (filtered_stack p f config.filtering s)) _

  -- The sum over the samples that are seen follows from the stacks that are left.
  pub sum_left : (test : List Written → Bool) → sum_where test (seen_samples p f config (Some column) p.sample)
      ≡ sum_passing (λ s. test (keys_of_text config.grouping.grain config.grouping.showcolumns config.grouping.noinlines s)) column (left_stacks p f config.filtering)
  sum_left test =
      ap (sum_where test) (seen_left p.sample)
      ∙ sum_seen config.grouping.grain config.grouping.showcolumns config.grouping.noinlines column test (left_stacks p f config.filtering)

-- A profile that keeps the stacks keeps the sums, where without filters its stacks are left whole.
pub keeps_sums : (p : Profile) (f : Finders) (config : Config) (q : Profile) → KeepsStacks p f config.filtering q
    → ((d : Config) → d.filtering.tagfocus ≡ [] → d.filtering.tagignore ≡ [] → left_stacks q no_finders d.filtering ≡ whole_stacks q) → KeepsSums p f config q
keeps_sums p f config q keeps whole d alike test column within =
    sum_left q no_finders d column alike.undivided test
    ∙ (λ i. sum_passing (λ s. test (keys_of_text (alike.grain i) (alike.showcolumns i) (alike.noinlines i) s)) column (whole d alike.tagfocus alike.tagignore i))
    ∙ keeps.sums (λ s. test (keys_of_text config.grouping.grain config.grouping.showcolumns config.grouping.noinlines s)) column within
    ∙ sym (sum_left p f config column alike.divide_by test)
