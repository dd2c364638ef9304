-- Values that are at least 0 are so after samples are added up, so the same keys occur, and totals stay.
use Rattle.std.proofs.Common.{◌≡◌, ℕ, ◌<◌, ℤ, pos, negsuc, ◌≤ℤ◌, nat_abs, true, not, List, [], ◌∷◌, map, length, get_or, filter, Option, Some, None, All, refl, sym, ap, ◌∙◌, subst, arith}
use Rattle.std.specs.Prelude.{option_map}
use Rattle.std.specs.List.{AllByRecursion}
use Rattle.std.specs.Ordering.{int_eq}
use Rattle.std.proofs.lemmas.Bool.{eqb-true}
use Rattle.std.proofs.lemmas.Int.{ints}
use Rattle.std.proofs.lemmas.List.Elements.{recursion_from_All}
use Rattle.std.proofs.lemmas.Option.{none-some, same_Some}
use Rattle.pp_model.specs.declared.config.Config.{Config}
use Rattle.pp_model.specs.declared.frame.Frame.{Frame}
use Rattle.pp_model.specs.declared.profile.Sample.{Sample}
use Rattle.pp_model.specs.declared.profile.Profile.{Profile}
use Rattle.pp_model.specs.Finders.{Finders, no_finders}
use Rattle.pp_model.specs.FrameTexts.{Written}
use Rattle.pp_model.specs.Rules.{NoRuleFails}
use Rattle.pp_model.proofs.RuleLemmas.{passes}
use Rattle.pp_count.specs.Seeing.{filtered_stack, seen_samples}
use Rattle.pp_count.specs.Sums.{Seen}
use Rattle.pp_share.specs.Alike.{same_sample}
use Rattle.pp_share.specs.Described.{SampleText}
use Rattle.pp_model.specs.FirstSight.{distinct}
use Rattle.pp_merge.specs.Settled.{IsSettled}
use Rattle.pp_share.specs.Sums.{counts, keys_of, rows_of, summed, sum_of}
use Rattle.pp_merge.proofs.MergedTotals.{at_total}
use Rattle.pp_share.proofs.NumberedLemmas.{all_mapped}
use Rattle.pp_merge.proofs.SettledLemmas.{all_any, all_filtered, all_some}
use Rattle.pp_merge.proofs.TotalLemmas.{total, adding_ℤ}
use Rattle.pp_dump.specs.Saved.{cut_sample, cut_samples, saved_contents, saved}
use Rattle.pp_dump.specs.Stacks.{left_stacks, whole_stacks}
use Rattle.pp_dump.specs.Unfiltered.{SeesAlike, KeepsSums, SameKeys}
use Rattle.pp_dump.proofs.KeptStacks.{wide}
use Rattle.pp_dump.proofs.SeenStacks.{seen_text, seen_left}
use Rattle.pp_dump.proofs.SeenSums.{IsNatural, AreNatural, natural_plus, any_by_sum, absolute_by_sum}
use Rattle.pp_dump.proofs.StackTexts.{with_stack, whole_back}

-- a value that is at least 0
pub natural : (v : ℤ) → pos 0 ≤ℤ v → IsNatural v
natural (pos n) least = (n, refl)
natural (negsuc n) least = absurd (omega (arith, ints, least))

total_natural : {X : Type 0} (f : X → ℤ) (xs : List X) → AllByRecursion (λ x. IsNatural (f x)) xs → IsNatural (total adding_ℤ f xs)
total_natural f [] all = (0, refl)
total_natural f (x ∷ xs) all = natural_plus (f x) (total adding_ℤ f xs) all.0 (total_natural f xs all.1)

module _ (column : ℕ) where
  -- the sample's value of the column is at least 0
  abbrev pub Natural : {K : Type 0} → K × List ℤ → Type 0
  Natural s = IsNatural (get_or s.1 column (pos 0))

  -- of samples that are added up
  pub summed_natural : (n : ℕ) (items : List (SampleText × List ℤ)) → column < n → AllByRecursion (λ item. length item.1 ≡ n) items → AllByRecursion Natural items
      → AllByRecursion Natural (filter counts (summed same_sample n items))
  summed_natural n items within long all =
      let keys = distinct same_sample (keys_of same_sample items) in
      all_filtered Natural counts (summed same_sample n items)
      (all_mapped Natural (λ key. (key, sum_of same_sample n items key)) keys
      (all_any (λ key. IsNatural (get_or (sum_of same_sample n items key) column (pos 0)))
      (λ key. let rows : List (List ℤ) = rows_of same_sample items key in
      subst IsNatural
      (sym (at_total n column rows within (all_mapped (λ (row : List ℤ). length row ≡ n) (λ (item : SampleText × List ℤ). item.1) _ (all_filtered _ (λ item. same_sample key item.0) items long))))
      (total_natural (λ (row : List ℤ). get_or row column (pos 0)) rows
      (all_mapped (λ (row : List ℤ). IsNatural (get_or row column (pos 0))) (λ (item : SampleText × List ℤ). item.1) _ (all_filtered Natural (λ item. same_sample key item.0) items all))))
      keys))

  -- of samples as a report sees them
  seen_natural : (p : Profile) (f : Finders) (config : Config) → config.presentation.divide_by ≡ 1 → AllByRecursion Natural (left_stacks p f config.filtering)
      → AreNatural (seen_samples p f config (Some column) p.sample)
  seen_natural p f config undivided all =
      subst AreNatural (sym (seen_left p f config column undivided p.sample))
      (all_mapped (λ (s : Seen Written). IsNatural s.value) (seen_text config.grouping.grain config.grouping.showcolumns config.grouping.noinlines column) (left_stacks p f config.filtering) all)

  module _ (p : Profile) (f : Finders) (config : Config) (valid : NoRuleFails p) (within : column < length p.sample_type)
      (least : All (λ s. All (λ v. pos 0 ≤ℤ v) s.value) p.sample) where
    -- of the samples that the filters leave
    pub cut_natural : AllByRecursion Natural (cut_samples p f config.filtering)
    cut_natural =
        all_some Natural (λ s. option_map (cut_sample p f s) (filtered_stack p f config.filtering s)) p.sample
        (recursion_from_All _ p.sample (λ k d below item is.
        one (get_or p.sample k d) (filtered_stack p f config.filtering (get_or p.sample k d)) (eqb-true _ _ (passes _ p.sample valid.values k d below)) (least k d below) item is))
      where
        one : (s : Sample) (o : Option (List Frame)) → length s.value ≡ length p.sample_type → All (λ v. pos 0 ≤ℤ v) s.value → (item : SampleText × List ℤ)
            → option_map (cut_sample p f s) o ≡ Some item → Natural item
        one s None fits values item is = absurd (none-some item is)
        one s (Some stack) fits values item is =
            subst Natural (same_Some (cut_sample p f s stack) item is) (natural (get_or s.value column (pos 0)) (values column (pos 0) (omega (arith, within, fits))))

    -- What a saved profile counts by values that are at least 0.
    pub keeps_keys : IsSettled (saved_contents p f config.filtering) → left_stacks p f config.filtering ≡ map with_stack (cut_samples p f config.filtering) → KeepsSums p f config (saved p f config.filtering)
        → ((d : Config) → d.filtering.tagfocus ≡ [] → d.filtering.tagignore ≡ [] → left_stacks (saved p f config.filtering) no_finders d.filtering ≡ whole_stacks (saved p f config.filtering))
        → (d : Config) → SeesAlike config d → SameKeys p f config (saved p f config.filtering) d column
    keeps_keys settled left sums whole d alike =
        let q : Profile = saved p f config.filtering in
        let items : List (SampleText × List ℤ) = cut_samples p f config.filtering in
        let ours : AreNatural (seen_samples p f config (Some column) p.sample) =
        seen_natural p f config alike.divide_by (subst (AllByRecursion Natural) (sym left) (all_mapped Natural with_stack items cut_natural)) in
        let theirs : AreNatural (seen_samples q no_finders d (Some column) q.sample) =
        seen_natural q no_finders d alike.undivided
        (subst (AllByRecursion Natural) (sym (whole d alike.tagfocus alike.tagignore ∙ whole_back (saved_contents p f config.filtering) settled))
        (all_mapped Natural with_stack (saved_contents p f config.filtering).samples (summed_natural (length p.sample_type) items within (wide p f config.filtering valid) cut_natural))) in
        record {
          some = λ test.
              any_by_sum test _ theirs ∙ ap (λ (v : ℤ). not (int_eq v (pos 0))) (sums d alike test column within) ∙ sym (any_by_sum test _ ours);
          absolutes = absolute_by_sum _ theirs ∙ ap nat_abs (sums d alike (λ _. true) column within) ∙ sym (absolute_by_sum _ ours);
        }
