-- Scaling scales, and a base counts against its source.
use Rattle.std.proofs.Common.{◌≡◌, ℕ, zero, suc, ◌/◌, Bool, true, false, cond, not, ◌&&◌, ℤ, pos, negsuc, neg_ℤ, ◌+ℤ◌, ◌*ℤ◌, List, [], ◌∷◌, map, get_or, set, Option, Some, None, option_map, refl, sym, ap, ◌∙◌}
use Rattle.std.specs.Prelude.{int_div}
use Rattle.std.specs.List.{AllByRecursion}
use Rattle.std.specs.Option.{option_map_or}
use Rattle.std.proofs.Math.IntN.{+ℤ_idr, zero-*ℤ, neg_ℤ-neg_ℤ}
use Rattle.std.proofs.Math.Nat.{div-one, zero-div}
use Rattle.std.proofs.lemmas.Int.{quot-rem}
use Rattle.std.proofs.lemmas.List.{get_or-set_same}
use Rattle.pp_model.specs.declared.config.Config.{Config}
use Rattle.pp_model.specs.declared.frame.Frame.{Frame}
use Rattle.pp_model.specs.declared.profile.Profile.{Profile}
use Rattle.pp_model.specs.declared.profile.Sample.{Sample}
use Rattle.pp_model.specs.declared.report.BaseKind.TheVariants.{Base}
use Rattle.pp_model.specs.declared.filtering.Filtering.{Filtering}
use Rattle.pp_model.specs.Finders.{Finders, TagFinders}
use Rattle.pp_model.specs.FrameTexts.{Written}
use Rattle.pp_model.specs.Sizes.{value_in}
use Rattle.pp_stack.specs.Filters.{frames_of_sample}
use Rattle.pp_tags.specs.declared.tag_filter.TagFilter.{TagFilter}
use Rattle.pp_tags.specs.TagFilters.{filter_in_force, selects_range, selects_parts, selects_or}
use Rattle.pp_grain.specs.Keys.{key_cmp}
use Rattle.pp_merge.specs.Scale.{scaled, scaled_sample, scaled_value, negated, negated_sample}
use Rattle.pp_count.specs.Column.{selected}
use Rattle.pp_count.specs.Sums.{Seen, sum_where, has, leads}
use Rattle.pp_count.specs.EdgeSums.{has_edge}
use Rattle.pp_count.specs.Seeing.{filtered_stack, keys_of_stack, seen_with, seen}
use Rattle.pp_count.specs.Counted.{report_samples}
use Rattle.pp_laws.specs.Scales.{ScalesEvenly, FiguresScale, WholeValuesScale, BasesNegate}
use Rattle.pp_laws.proofs.IntSums.{sum_same, sum_each, sum-map, sum_times, sum_negated}
use Rattle.pp_laws.proofs.Sampling.{part, sum_seen}

of_either : (b : Bool) (v w : ℤ) (num den : ℕ) → w *ℤ pos den ≡ v *ℤ pos num → cond b w (pos 0) *ℤ pos den ≡ cond b v (pos 0) *ℤ pos num
of_either true v w num den is = is
of_either false v w num den is = zero-*ℤ (pos den) ∙ sym (zero-*ℤ (pos num))

-- the sample with other values
abbrev with_values : List ℤ → Sample → Sample
with_values values s = record s { value = values }

-- what filters leave of a sample's stack doesn't depend on its values
module _ (p : Profile) (values : List ℤ) (s : Sample) where
  same_parts : (name : List ℕ) (parts : TagFinders) → selects_parts p name parts (with_values values s) ≡ selects_parts p name parts s
  same_parts [] parts = refl
  same_parts (b ∷ bs) parts = refl

  same_tags : (other : Bool) (filter : Option TagFilter) (parts : TagFinders) → selects_or other p filter parts (with_values values s) ≡ selects_or other p filter parts s
  same_tags other None parts = refl
  same_tags other (Some filter) parts = ap (option_map_or (λ range. selects_range p filter.name range s) filter.range) (same_parts filter.name parts)

  same_stack : (f : Finders) (filtering : Filtering) → filtered_stack p f filtering (with_values values s) ≡ filtered_stack p f filtering s
  same_stack f filtering = λ i.
      cond (same_tags true (filter_in_force filtering.tagfocus) f.tagfocus i && not (same_tags false (filter_in_force filtering.tagignore) f.tagignore i)) (frames_of_sample p f s) None

module _ (p : Profile) (f : Finders) (config : Config) (column num den : ℕ) where
  -- what is seen of the sample
  abbrev seen_before : Sample → Option (Seen Written)
  seen_before = seen p f config (Some column)

  -- what is seen of it once it is scaled
  abbrev seen_after : Sample → Option (Seen Written)
  seen_after s = seen (scaled p column num den) f config (Some column) (scaled_sample column num den s)

  part_scales : (test : List Written → Bool) (s : Sample) → ScalesEvenly column num den config.presentation.divide_by s
      → option_map_or (part test) (seen_after s) (pos 0) *ℤ pos den ≡ option_map_or (part test) (seen_before s) (pos 0) *ℤ pos num
  part_scales test s even =
      ap (λ (o : Option (List Frame)). option_map_or (part test) (option_map (seen_with (scaled p column num den) config (Some column) (scaled_sample column num den s)) o) (pos 0) *ℤ pos den)
      (same_stack p (set s.value column (scaled_value num den (value_in s column))) s f config.filtering)
      ∙ elim (filtered_stack p f config.filtering s) as (λ (o : Option (List Frame)).
      option_map_or (part test) (option_map (seen_with (scaled p column num den) config (Some column) (scaled_sample column num den s)) o) (pos 0) *ℤ pos den
      ≡ option_map_or (part test) (option_map (seen_with p config (Some column) s) o) (pos 0) *ℤ pos num) [
        | None ↦ zero-*ℤ (pos den) ∙ sym (zero-*ℤ (pos num))
        | Some stack ↦ of_either (test (keys_of_stack p config.grouping stack)) (selected (Some column) config.presentation.divide_by s) (selected (Some column) config.presentation.divide_by (scaled_sample column num den s)) num den even
      ]

  parts_scale : (test : List Written → Bool) (ss : List Sample) → AllByRecursion (ScalesEvenly column num den config.presentation.divide_by) ss
      → AllByRecursion (λ s. option_map_or (part test) (seen_after s) (pos 0) *ℤ pos den ≡ option_map_or (part test) (seen_before s) (pos 0) *ℤ pos num) ss
  parts_scale test [] even = tt
  parts_scale test (s ∷ ss) even = (part_scales test s even.0, parts_scale test ss even.1)

  sums_scale : (test : List Written → Bool) → AllByRecursion (ScalesEvenly column num den config.presentation.divide_by) p.sample
      → sum_where test (report_samples (scaled p column num den) f config (Some column)) *ℤ pos den ≡ sum_where test (report_samples p f config (Some column)) *ℤ pos num
  sums_scale test even =
      let before : Sample → ℤ = λ s. option_map_or (part test) (seen_before s) (pos 0) in
      let after : Sample → ℤ = λ s. option_map_or (part test) (seen_after s) (pos 0) in
      ap (λ v. v *ℤ pos den) (sum_seen test (seen (scaled p column num den) f config (Some column)) (map (scaled_sample column num den) p.sample)
      ∙ sum-map (λ s. option_map_or (part test) (seen (scaled p column num den) f config (Some column) s) (pos 0)) (scaled_sample column num den) p.sample)
      ∙ sum_times after den p.sample
      ∙ sum_each (λ s. after s *ℤ pos den) (λ s. before s *ℤ pos num) p.sample (parts_scale test p.sample even)
      ∙ sym (sum_times before num p.sample)
      ∙ ap (λ v. v *ℤ pos num) (sym (sum_seen test seen_before p.sample))

pub figures_scale : FiguresScale
figures_scale p f config column num den even = record {
  flat = λ k. sums_scale p f config column num den (leads key_cmp k) even;
  cum = λ k. sums_scale p f config column num den (has key_cmp k) even;
  edge = λ kept a b. sums_scale p f config column num den (has_edge key_cmp kept a b) even;
}

pub by_one : (v : ℤ) → int_div v (pos 1) ≡ v
by_one (pos n) = ap pos (div-one n)
by_one (negsuc n) = ap (λ m. neg_ℤ (pos m)) (div-one (suc n))

pub whole_values_scale : WholeValuesScale
whole_values_scale column num den s within rest =
    let w : ℤ = scaled_value num den (value_in s column) in
    ap (λ v. v *ℤ pos den) (by_one (get_or (set s.value column w) column (pos 0)) ∙ get_or-set_same s.value column w (pos 0) within)
    ∙ sym (+ℤ_idr (w *ℤ pos den)) ∙ ap (λ r. w *ℤ pos den +ℤ r) (sym rest) ∙ quot-rem (value_in s column *ℤ pos num) (pos den)
    ∙ ap (λ v. v *ℤ pos num) (sym (by_one (value_in s column)))

pub value_negated : (values : List ℤ) (column : ℕ) → get_or (map neg_ℤ values) column (pos 0) ≡ neg_ℤ (get_or values column (pos 0))
value_negated [] column = refl
value_negated (v ∷ values) zero = refl
value_negated (v ∷ values) (suc column) = value_negated values column

div_negated : (v : ℤ) (d : ℕ) → int_div (neg_ℤ v) (pos d) ≡ neg_ℤ (int_div v (pos d))
div_negated (pos zero) d = ap pos (zero-div d) ∙ ap (λ n. neg_ℤ (pos n)) (sym (zero-div d))
div_negated (pos (suc n)) d = refl
div_negated (negsuc n) d = sym (neg_ℤ-neg_ℤ (pos (suc n / d)))

selected_negated : (column : Option ℕ) (divide_by : ℕ) (s : Sample) → selected column divide_by (negated_sample s) ≡ neg_ℤ (selected column divide_by s)
selected_negated None divide_by s = refl
selected_negated (Some column) divide_by s =
    ap (λ v. int_div v (pos divide_by)) (value_negated s.value column) ∙ div_negated (value_in s column) divide_by

pub if_negated : (b : Bool) (v w : ℤ) → w ≡ neg_ℤ v → cond b w (pos 0) ≡ neg_ℤ (cond b v (pos 0))
if_negated true v w is = is
if_negated false v w is = refl

module _ (p : Profile) (f : Finders) (config : Config) (column : Option ℕ) where
  part_negated : (test : List Written → Bool) (s : Sample)
      → option_map_or (part test) (seen (negated Base p) f config column (negated_sample s)) (pos 0) ≡ neg_ℤ (option_map_or (part test) (seen p f config column s) (pos 0))
  part_negated test s =
      ap (λ (o : Option (List Frame)). option_map_or (part test) (option_map (seen_with (negated Base p) config column (negated_sample s)) o) (pos 0))
      (same_stack p (map neg_ℤ s.value) s f config.filtering)
      ∙ elim (filtered_stack p f config.filtering s) as (λ (o : Option (List Frame)).
      option_map_or (part test) (option_map (seen_with (negated Base p) config column (negated_sample s)) o) (pos 0)
      ≡ neg_ℤ (option_map_or (part test) (option_map (seen_with p config column s) o) (pos 0))) [
        | None ↦ refl
        | Some stack ↦ if_negated (test (keys_of_stack p config.grouping stack)) (selected column config.presentation.divide_by s) (selected column config.presentation.divide_by (negated_sample s)) (selected_negated column config.presentation.divide_by s)
      ]

  sums_negated : (test : List Written → Bool)
      → sum_where test (report_samples (negated Base p) f config column) ≡ neg_ℤ (sum_where test (report_samples p f config column))
  sums_negated test =
      let before : Sample → ℤ = λ s. option_map_or (part test) (seen p f config column s) (pos 0) in
      let after : Sample → ℤ = λ s. option_map_or (part test) (seen (negated Base p) f config column s) (pos 0) in
      sum_seen test (seen (negated Base p) f config column) (map negated_sample p.sample)
      ∙ sum-map after negated_sample p.sample
      ∙ sum_same (λ s. after (negated_sample s)) (λ s. neg_ℤ (before s)) p.sample (part_negated test)
      ∙ sum_negated before p.sample
      ∙ ap neg_ℤ (sym (sum_seen test (seen p f config column) p.sample))

pub bases_negate : BasesNegate
bases_negate p f config column = record {
  flat = λ k. sums_negated p f config column (leads key_cmp k);
  cum = λ k. sums_negated p f config column (has key_cmp k);
  edge = λ kept a b. sums_negated p f config column (has_edge key_cmp kept a b);
}
