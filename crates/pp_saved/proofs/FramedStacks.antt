-- The frames that a report sees of samples follow from their stacks, so a saved profile shows the frames that the
-- filters left.
use Rattle.std.proofs.Common.{◌≡◌, ℕ, ◌<◌, ℤ, pos, ◌+ℤ◌, ◌≤ℤ◌, Bool, not, List, [], ◌∷◌, map, length, get_or, All, refl, sym, ap, ◌∙◌, subst, arith}
use Rattle.std.specs.Prelude.{Option, Some, None, option_map, int_div}
use Rattle.std.specs.List.{AllByRecursion, filter_map, cons_option, list_any}
use Rattle.std.specs.Ordering.{int_eq}
use Rattle.std.proofs.lemmas.Bool.{eqb-true}
use Rattle.std.proofs.lemmas.List.Elements.{recursion_from_All}
use Rattle.std.proofs.lemmas.Simd.{map-map}
use Rattle.pp_model.specs.declared.config.Config.{Config}
use Rattle.pp_model.specs.declared.frame.Frame.{Frame}
use Rattle.pp_model.specs.declared.profile.Sample.{Sample}
use Rattle.pp_model.specs.declared.profile.Profile.{Profile}
use Rattle.pp_model.specs.Finders.{Finders, no_finders}
use Rattle.pp_model.specs.FrameTexts.{Written}
use Rattle.pp_model.specs.Rules.{NoRuleFails}
use Rattle.pp_model.specs.Sizes.{value_in}
use Rattle.pp_model.proofs.RuleLemmas.{passes}
use Rattle.pp_count.specs.Seeing.{filtered_stack, framed_with, framed_samples}
use Rattle.pp_count.specs.Sums.{Seen, weighed, sum_where}
use Rattle.pp_merge.specs.Totals.{value_passing, sum_passing}
use Rattle.pp_share.specs.Written.{written_sample}
use Rattle.pp_share.proofs.NumberedLemmas.{all_mapped}
use Rattle.pp_restack.specs.Stacks.{by_place}
use Rattle.pp_dump.specs.Saved.{cut_samples, saved_contents, saved}
use Rattle.pp_dump.specs.Stacks.{PlaceText, StackText, left_place, left_stack, left_stacks, whole_stacks, KeepsStacks}
use Rattle.pp_dump.proofs.CountedPlaces.{counted_places, counted_stack}
use Rattle.pp_dump.proofs.KeptStacks.{wide}
use Rattle.pp_dump.proofs.NaturalStacks.{summed_natural, cut_natural, natural}
use Rattle.pp_dump.proofs.SeenStacks.{quotient_one}
use Rattle.pp_dump.proofs.SeenSums.{IsNatural, AreNatural, any_by_sum}

-- the frames of a stack that count, leaf first
abbrev pub frames_of : Bool → StackText → List Written
frames_of noinlines s = counted_places noinlines (map (λ (place : PlaceText). place.frames) s.places)

-- the sample with them
abbrev pub framed_text : Bool → ℕ → StackText × List ℤ → Seen Written
framed_text noinlines column s = record { value = get_or s.1 column (pos 0); keys = frames_of noinlines s.0 }

sum_framed : (noinlines : Bool) (column : ℕ) (test : List Written → Bool) (xs : List (StackText × List ℤ))
    → sum_where test (map (framed_text noinlines column) xs) ≡ sum_passing (λ s. test (frames_of noinlines s)) column xs
sum_framed noinlines column test [] = refl
sum_framed noinlines column test (x ∷ xs) = ap (λ sum. value_passing (λ s. test (frames_of noinlines s)) column x +ℤ sum) (sum_framed noinlines column test xs)

module _ (p : Profile) (f : Finders) (config : Config) (column : ℕ) (undivided : config.presentation.divide_by ≡ 1) where
  value_is : (s : Sample) → int_div (value_in s column) (pos config.presentation.divide_by) ≡ value_in s column
  value_is s = ap (λ (n : ℕ). int_div (value_in s column) (pos n)) undivided ∙ quotient_one (value_in s column)

  frames_are : (stack : List Frame) → (framed_with p config (Some column) (record { location_id = []; value = []; label = [] }) stack).keys
      ≡ counted_places config.grouping.noinlines (map (λ (place : PlaceText). place.frames) (map (left_place p) (by_place stack)))
  frames_are stack =
      counted_stack p config.grouping.noinlines stack
      ∙ ap (counted_places config.grouping.noinlines) (sym (map-map (λ (place : PlaceText). place.frames) (left_place p) (by_place stack)))

  one_framed : (s : Sample) (o : Option (List Frame))
      → option_map (framed_with p config (Some column) s) o ≡ option_map (framed_text config.grouping.noinlines column) (option_map (left_stack p f s) o)
  one_framed s None = refl
  one_framed s (Some stack) = (λ i. Some (record { value = value_is s i; keys = frames_are stack i }))

  one_more : (o : Option (StackText × List ℤ)) (rest : List (StackText × List ℤ))
      → cons_option (option_map (framed_text config.grouping.noinlines column) o) (map (framed_text config.grouping.noinlines column) rest) ≡ map (framed_text config.grouping.noinlines column) (cons_option o rest)
  one_more None rest = refl
  one_more (Some x) rest = refl

  framed_left : (xs : List Sample)
      → framed_samples p f config (Some column) xs
      ≡ map (framed_text config.grouping.noinlines column) (filter_map (λ s. option_map (left_stack p f s) (filtered_stack p f config.filtering s)) xs)
  framed_left [] = refl
  framed_left (s ∷ xs) =
      (λ i. cons_option (one_framed s (filtered_stack p f config.filtering s) i) (framed_left xs i))
      ∙ one_more (option_map (left_stack p f s) (filtered_stack p f config.filtering s)) _

  -- A sum over samples by their frames follows from the stacks that are left.
  pub sum_framed_left : (test : List Written → Bool) → sum_where test (framed_samples p f config (Some column) p.sample)
      ≡ sum_passing (λ s. test (frames_of config.grouping.noinlines s)) column (left_stacks p f config.filtering)
  sum_framed_left test = ap (sum_where test) (framed_left p.sample) ∙ sum_framed config.grouping.noinlines column test (left_stacks p f config.filtering)

  -- Samples whose values are at least 0 are seen so.
  pub framed_natural : (xs : List Sample) → AllByRecursion (λ s. IsNatural (get_or s.value column (pos 0))) xs → AreNatural (framed_samples p f config (Some column) xs)
  framed_natural [] all = tt
  framed_natural (s ∷ xs) all = by (filtered_stack p f config.filtering s) (framed_natural xs all.1)
    where
      by : (o : Option (List Frame)) → AreNatural (framed_samples p f config (Some column) xs)
          → AreNatural (cons_option (option_map (framed_with p config (Some column) s) o) (framed_samples p f config (Some column) xs))
      by None rest = rest
      by (Some stack) rest = (subst IsNatural (sym (value_is s)) all.0, rest)

module _ (p : Profile) (column : ℕ) (valid : NoRuleFails p) (within : column < length p.sample_type) (least : All (λ s. All (λ v. pos 0 ≤ℤ v) s.value) p.sample) where
  -- The values of the profile in the column,
  pub own_natural : AllByRecursion (λ s. IsNatural (get_or s.value column (pos 0))) p.sample
  own_natural =
      recursion_from_All (λ s. IsNatural (get_or s.value column (pos 0))) p.sample (λ k d below.
      let s : Sample = get_or p.sample k d in
      let wide_enough : length s.value ≡ length p.sample_type = eqb-true _ _ (passes _ p.sample valid.values k d below) in
      natural (get_or s.value column (pos 0)) (least k d below column (pos 0) (omega (arith, within, wide_enough))))

  -- and those of the saved one.
  pub saved_natural : (f : Finders) (config : Config) → AllByRecursion (λ s. IsNatural (get_or s.value column (pos 0))) (saved p f config.filtering).sample
  saved_natural f config =
      all_mapped (λ (s : Sample). IsNatural (get_or s.value column (pos 0))) (written_sample (saved_contents p f config.filtering)) (saved_contents p f config.filtering).samples
      (summed_natural column (length p.sample_type) (cut_samples p f config.filtering) within (wide p f config.filtering valid) (cut_natural column p f config valid within least))

-- Frames that are found in a profile are found in one that keeps its stacks, where its values are at least 0.
pub frames_found : (p : Profile) (f : Finders) (config : Config) (q : Profile) (d : Config) (column : ℕ) → KeepsStacks p f config.filtering q
    → column < length p.sample_type → d.grouping.noinlines ≡ config.grouping.noinlines → config.presentation.divide_by ≡ 1 → d.presentation.divide_by ≡ 1
    → left_stacks q no_finders d.filtering ≡ whole_stacks q
    → AllByRecursion (λ s. IsNatural (get_or s.value column (pos 0))) p.sample → AllByRecursion (λ s. IsNatural (get_or s.value column (pos 0))) q.sample
    → (test : List Written → Bool)
    → list_any (λ s. test s.keys) (weighed (framed_samples q no_finders d (Some column) q.sample))
    ≡ list_any (λ s. test s.keys) (weighed (framed_samples p f config (Some column) p.sample))
frames_found p f config q d column keeps within inlines undivided also_undivided whole ours theirs test =
    let sums : sum_where test (framed_samples q no_finders d (Some column) q.sample) ≡ sum_where test (framed_samples p f config (Some column) p.sample) =
    sum_framed_left q no_finders d column also_undivided test
    ∙ (λ i. sum_passing (λ s. test (frames_of (inlines i) s)) column (whole i))
    ∙ keeps.sums (λ s. test (frames_of config.grouping.noinlines s)) column within
    ∙ sym (sum_framed_left p f config column undivided test) in
    any_by_sum test _ (framed_natural q no_finders d column also_undivided q.sample theirs)
    ∙ ap (λ (v : ℤ). not (int_eq v (pos 0))) sums
    ∙ sym (any_by_sum test _ (framed_natural p f config column undivided p.sample ours))
