-- A comparison shows both sides.
use Rattle.std.proofs.Common.{◌≡◌, ℕ, ◌+◌, Bool, true, false, cond, not, ◌&&◌, ◌||◌, ℤ, pos, neg_ℤ, ◌+ℤ◌, ◌-ℤ◌, List, [], ◌∷◌, ◌++◌, length, map, get_or, Option, Some, refl, sym, ap, ◌∙◌, append_assoc, length-append, arith}
use Rattle.std.specs.Prelude.{codes, bytes_eq}
use Rattle.std.specs.List.{filter, list_any}
use Rattle.std.specs.Option.{option_map_or}
use Rattle.std.proofs.Math.Seq.{get_or-append_seam}
use Rattle.std.proofs.lemmas.Int.{ints}
use Rattle.std.proofs.lemmas.List.{map-append}
use Rattle.std.proofs.lemmas.List.Folds.{list_any-append}
use Rattle.std.proofs.lemmas.Bool.{or_parts}
use Rattle.pp_model.specs.declared.config.Config.{Config}
use Rattle.pp_model.specs.declared.profile.Profile.{Profile}
use Rattle.pp_model.specs.declared.profile.Sample.{Sample}
use Rattle.pp_model.specs.declared.report.BaseKind.TheVariants.{DiffBase}
use Rattle.pp_model.specs.Finders.{Finders}
use Rattle.pp_model.specs.FrameTexts.{Written}
use Rattle.pp_model.specs.Lookup.{text_of}
use Rattle.pp_model.specs.Rules.{NoRuleFails}
use Rattle.pp_model.specs.Sizes.{value_in}
use Rattle.pp_stack.proofs.ToldLemmas.{list_any-map}
use Rattle.pp_grain.specs.Keys.{key_cmp}
use Rattle.pp_share.specs.Described.{LabelText, label_text}
use Rattle.pp_share.proofs.NumberedLemmas.{all_mapped}
use Rattle.pp_merge.specs.Merge.{merged}
use Rattle.pp_merge.specs.Scale.{base_label}
use Rattle.pp_merge.proofs.SettledLemmas.{all_any}
use Rattle.pp_merge.proofs.TotalLemmas.{total, total_same, adding_ℤ}
use Rattle.pp_count.specs.Base.{has_base, base_report_samples}
use Rattle.pp_count.specs.Counts.{is_base}
use Rattle.pp_count.specs.Counted.{report_samples}
use Rattle.pp_count.specs.Seeing.{seen, seen_samples}
use Rattle.pp_count.specs.Sums.{sum_where, weighed, has, leads}
use Rattle.pp_count.proofs.Adding.{or-true}
use Rattle.pp_laws.specs.Merged.{AddUp}
use Rattle.pp_laws.specs.Bases.{less_base}
use Rattle.pp_laws.specs.Compared.{source_report_samples, source_samples, SidesAreApart, BothAreShown}
use Rattle.pp_laws.proofs.IntSums.{sum_over}
use Rattle.pp_laws.proofs.Sampling.{part, sum_seen}
use Rattle.pp_laws.proofs.Grouped.{told_in}
use Rattle.pp_laws.proofs.Shards.{says, sum_of_sources, labelled_figure_said, source_said, starts_of}
use Rattle.pp_laws.proofs.Subtracting.{figure}
use Rattle.pp_laws.proofs.Labelled.{labelled, marked, labelled_adds_up, labelled_alone, subtracts}

-- a sum over items that pass a test, and over the others
sum_apart : {X : Type 0} (g : X → ℤ) (test : X → Bool) (xs : List X) → sum_over g xs ≡ sum_over g (filter test xs) +ℤ sum_over g (filter (λ x. not (test x)) xs)
sum_apart g test [] = refl
sum_apart g test (x ∷ xs) =
    let rest : sum_over g xs ≡ sum_over g (filter test xs) +ℤ sum_over g (filter (λ y. not (test y)) xs) = sum_apart g test xs in
    elim (test x) as (λ b. g x +ℤ sum_over g xs ≡ sum_over g (cond b (x ∷ filter test xs) (filter test xs)) +ℤ sum_over g (cond (not b) (x ∷ filter (λ y. not (test y)) xs) (filter (λ y. not (test y)) xs))) [
      | true ↦ omega (arith, ints, rest)
      | false ↦ omega (arith, ints, rest)
    ]

added_back : (base all others : ℤ) → all ≡ base +ℤ others → neg_ℤ base +ℤ all ≡ others
added_back base all others is = omega (arith, ints, is)

module _ (p : Profile) (f : Finders) (config : Config) (column : Option ℕ) where
  -- what is left of a figure over all samples is that over the source's
  apart : (test : List Written → Bool)
      → neg_ℤ (sum_where test (base_report_samples p f config column)) +ℤ sum_where test (report_samples p f config column)
      ≡ sum_where test (source_report_samples p f config column)
  apart test =
      let adds : Sample → ℤ = λ s. option_map_or (part test) (seen p f config column s) (pos 0) in
      added_back (sum_where test (base_report_samples p f config column)) (sum_where test (report_samples p f config column)) (sum_where test (source_report_samples p f config column))
      (sum_seen test (seen p f config column) p.sample ∙ sum_apart adds (is_base p) p.sample
      ∙ (λ i. sym (sum_seen test (seen p f config column) (filter (is_base p) p.sample)) i +ℤ sym (sum_seen test (seen p f config column) (source_samples p)) i))

pub sides_are_apart : SidesAreApart
sides_are_apart p f config column = record {
  flat = λ k. apart p f config column (leads key_cmp k);
  cum = λ k. apart p f config column (has key_cmp k);
}

-- whether labels say that their sample is a base's
abbrev pub tell_base : List LabelText → Bool
tell_base labels = list_any (λ label. bytes_eq label.key (codes "pprof::base") && bytes_eq label.text (codes "true")) labels

pub base_told : (p : Profile) (s : Sample) → is_base p s ≡ tell_base (map (label_text (text_of p)) s.label)
base_told p s = sym (list_any-map (label_text (text_of p)) (λ label. bytes_eq label.key (codes "pprof::base") && bytes_eq label.text (codes "true")) s.label)

-- samples of which none passes come to nothing
none_passes : (test more : Sample → Bool) (value : Sample → ℤ) (ss : List Sample) → list_any test ss ≡ false
    → total adding_ℤ (λ s. cond (test s && more s) (value s) (pos 0)) ss ≡ pos 0
none_passes test more value [] none = refl
none_passes test more value (s ∷ ss) none =
    let parts = or_parts (test s) (list_any test ss) none in
    λ i. cond (parts.0 i && more s) (value s) (pos 0) +ℤ none_passes test more value ss parts.1 i

module _ (b : Profile) (valid : NoRuleFails b) where
  key_told : text_of (labelled b valid) (pos (length b.text)) ≡ codes "pprof::base"
  key_told = get_or-append_seam b.text (codes "pprof::base") (codes "true" ∷ []) []

  text_told : text_of (labelled b valid) (pos (length b.text + 1)) ≡ codes "true"
  text_told =
      let at : length b.text + 1 ≡ length (b.text ++ codes "pprof::base" ∷ []) = omega (arith, length-append b.text (codes "pprof::base" ∷ [])) in
      (λ i. get_or (sym (append_assoc b.text (codes "pprof::base" ∷ []) (codes "true" ∷ [])) i) (at i) [])
      ∙ get_or-append_seam (b.text ++ codes "pprof::base" ∷ []) (codes "true") [] []

  -- each sample of a labelled base says so
  marked_told : (s : Sample) → tell_base (map (label_text (text_of (labelled b valid))) (s.label ++ base_label (length b.text) ∷ [])) ≡ true
  marked_told s =
      let tells : LabelText → Bool = λ label. bytes_eq label.key (codes "pprof::base") && bytes_eq label.text (codes "true") in
      ap tell_base (map-append (label_text (text_of (labelled b valid))) s.label (base_label (length b.text) ∷ []))
      ∙ list_any-append tells (map (label_text (text_of (labelled b valid))) s.label) (label_text (text_of (labelled b valid)) (base_label (length b.text)) ∷ [])
      ∙ (λ i. tell_base (map (label_text (text_of (labelled b valid))) s.label) || ((bytes_eq (key_told i) (codes "pprof::base") && bytes_eq (text_told i) (codes "true")) || false))
      ∙ or-true (tell_base (map (label_text (text_of (labelled b valid))) s.label))

module _ (f : Finders) (config : Config) (column : ℕ) (divisor : config.presentation.divide_by ≡ 1) (tagfocus : config.filtering.tagfocus ≡ []) (tagignore : config.filtering.tagignore ≡ [])
    (p base : Profile) (valid : NoRuleFails base) (can : AddUp p (base ∷ []) config column) (unlabelled : has_base p ≡ false) (test : List Written → Bool) where
  abbrev q : Profile
  q = labelled base valid

  abbrev both : Profile
  both = less_base DiffBase p base

  -- the figure of a profile that is reported alone
  abbrev alone : Profile → ℤ
  alone r = figure f config column divisor test (merged r [])

  adds_up : AddUp p (q ∷ []) config column
  adds_up = labelled_adds_up f config column divisor tagfocus tagignore base valid p can

  -- what a sample of a source says, if its labels say that it is a base's
  abbrev asked : Profile → Sample → ℤ
  asked r s = cond (tell_base (told_in p (q ∷ []) r s).labels && says f config column divisor test (told_in p (q ∷ []) r s)) (value_in s column) (pos 0)

  none_of_source : total adding_ℤ (asked p) p.sample ≡ pos 0
  none_of_source =
      none_passes (λ s. tell_base (map (label_text (text_of p)) s.label)) (λ s. says f config column divisor test (told_in p (q ∷ []) p s)) (λ s. value_in s column) p.sample
      ((λ i. list_any (λ s. sym (base_told p s) i) p.sample) ∙ unlabelled)

  all_of_base : total adding_ℤ (asked q) q.sample ≡ sum_of_sources f config column divisor test p (q ∷ []) q
  all_of_base =
      let whole : Sample → ℤ = λ s. cond (says f config column divisor test (told_in p (q ∷ []) q s)) (value_in s column) (pos 0) in
      let mark : Sample → Sample = marked f config column divisor tagfocus tagignore base valid in
      total_same adding_ℤ (asked q) whole q.sample
      (all_mapped (λ s. asked q s ≡ whole s) mark base.sample
      (all_any (λ s. asked q (mark s) ≡ whole (mark s))
      (λ s. ap (λ t. cond (t && says f config column divisor test (told_in p (q ∷ []) q (mark s))) (value_in (mark s) column) (pos 0)) (marked_told base valid s)) base.sample))

  plain : (x : ℤ) → pos 0 +ℤ (x +ℤ pos 0) ≡ x
  plain x = omega (arith, ints)

  base_figure : sum_where test (base_report_samples both f config (Some column)) ≡ neg_ℤ (alone base)
  base_figure =
      (λ i. sum_where test (weighed (seen_samples both f config (Some column) (filter (λ s. base_told both s i) both.sample))))
      ∙ labelled_figure_said f config column divisor p (q ∷ []) (starts_of f config column divisor p (q ∷ []) adds_up) adds_up.values adds_up.within tell_base test
      ∙ (λ i. none_of_source i +ℤ (all_of_base i +ℤ pos 0))
      ∙ plain (sum_of_sources f config column divisor test p (q ∷ []) q)
      ∙ source_said f config column divisor p (q ∷ []) q adds_up.mappings.1.0 adds_up.starts.1.0 adds_up.types.1.0 adds_up.values.1.0 adds_up.within test
      ∙ labelled_alone f config column divisor tagfocus tagignore base valid p can test

  negated_twice : (x y : ℤ) → x ≡ neg_ℤ y → neg_ℤ x ≡ y
  negated_twice x y is = omega (arith, ints, is)

  shown_before : neg_ℤ (sum_where test (base_report_samples both f config (Some column))) ≡ alone base
  shown_before = negated_twice (sum_where test (base_report_samples both f config (Some column))) (alone base) base_figure

  taken_off : (b all x y : ℤ) → b ≡ neg_ℤ y → all ≡ x -ℤ y → neg_ℤ b +ℤ all ≡ x
  taken_off b all x y is all_is = omega (arith, ints, is, all_is)

  shown_after : neg_ℤ (sum_where test (base_report_samples both f config (Some column))) +ℤ sum_where test (report_samples both f config (Some column)) ≡ alone p
  shown_after =
      taken_off (sum_where test (base_report_samples both f config (Some column))) (sum_where test (report_samples both f config (Some column))) (alone p) (alone base)
      base_figure (subtracts f config column divisor tagfocus tagignore base valid p can test)

pub both_are_shown : BothAreShown
both_are_shown p base f config column can valid unlabelled tagfocus tagignore = record {
  flat_before = λ k. shown_before f config column can.divisor tagfocus tagignore p base valid can unlabelled (leads key_cmp k);
  flat_after = λ k. shown_after f config column can.divisor tagfocus tagignore p base valid can unlabelled (leads key_cmp k);
  cum_before = λ k. shown_before f config column can.divisor tagfocus tagignore p base valid can unlabelled (has key_cmp k);
  cum_after = λ k. shown_after f config column can.divisor tagfocus tagignore p base valid can unlabelled (has key_cmp k);
}
