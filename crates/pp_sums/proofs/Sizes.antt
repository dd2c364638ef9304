-- What percentages are taken of, told from what samples say, where no value is negative.
use Rattle.std.proofs.Common.{◌≡◌, ℕ, ◌<◌, Bool, true, false, cond, ◌&&◌, ℤ, pos, negsuc, nat_abs, List, [], ◌∷◌, length, get_or, Some, refl, sym, ap, ◌∙◌, arith}
use Rattle.std.specs.Prelude.{int_div, is_some, ◌≤ℤ◌}
use Rattle.std.specs.List.{AllByRecursion, sum_by}
use Rattle.std.proofs.Math.IntN.{+ℤ_idr}
use Rattle.std.proofs.lemmas.Int.{ints}
use Rattle.std.proofs.lemmas.List.Sums.{sum_by-cons}
use Rattle.pp_base.proofs.Lists.{all_by}
use Rattle.pp_model.specs.declared.config.Config.{Config}
use Rattle.pp_model.specs.declared.profile.Profile.{Profile}
use Rattle.pp_model.specs.declared.profile.Sample.{Sample}
use Rattle.pp_model.specs.Finders.{Finders}
use Rattle.pp_model.specs.Sizes.{value_in}
use Rattle.pp_share.specs.Described.{SampleText}
use Rattle.pp_share.specs.Written.{Contents}
use Rattle.pp_share.proofs.NumberedLemmas.{all_both}
use Rattle.pp_merge.specs.Merge.{contents, merged}
use Rattle.pp_merge.specs.Settled.{IsSettled}
use Rattle.pp_merge.proofs.TotalLemmas.{total, adding_ℤ}
use Rattle.pp_merge.proofs.WrittenAgain.{contents_again}
use Rattle.pp_count.specs.Column.{selected}
use Rattle.pp_count.specs.Counts.{is_base, total_by, total_of}
use Rattle.pp_count.specs.Seeing.{seen}
use Rattle.pp_laws.specs.Merged.{HasValues}
use Rattle.pp_laws.proofs.Comparing.{tell_base, base_told}
use Rattle.pp_laws.proofs.Grouped.{grouped, told_in}
use Rattle.pp_laws.proofs.IntSums.{sum_over, sum_each}
use Rattle.pp_laws.proofs.Multiplying.{by_one}
use Rattle.pp_laws.proofs.Reordering.{all_size, base_size, own_told}
use Rattle.pp_laws.proofs.Shards.{says, sum_total}
use Rattle.pp_sums.specs.Same.{HasNoNegative}
use Rattle.pp_sums.proofs.Told.{IsPlain, Fits, each_fits, saying, seen_said, kept_told}

sum_pos : {X : Type 0} (size : X → ℕ) (xs : List X) → pos (sum_by size xs) ≡ sum_over (λ x. pos (size x)) xs
sum_pos size [] = refl
sum_pos size (x ∷ xs) = omega (arith, ints, sum_pos size xs, sum_by-cons size x xs)

pos_if : (b : Bool) (n : ℕ) (v : ℤ) → pos n ≡ v → pos (cond b n 0) ≡ cond b v (pos 0)
pos_if true n v is = is
pos_if false n v is = refl

if_both : (a b : Bool) (v : ℤ) → cond a (cond b v (pos 0)) (pos 0) ≡ cond (a && b) v (pos 0)
if_both true b v = refl
if_both false b v = refl

abs_above : (v : ℤ) → pos 0 ≤ℤ v → pos (nat_abs v) ≡ v
abs_above (pos n) above = refl
abs_above (negsuc n) above = absurd (above.le)

-- the values of a profile's samples that say something
abbrev pub asked : (SampleText → Bool) → ℕ → Profile → List Profile → Profile → ℤ
asked asks column p ps q = total adding_ℤ (λ s. cond (asks (told_in p ps q s)) (value_in s column) (pos 0)) q.sample

-- The values of merged samples that say something are those of the sources' samples that do.
pub asked_of_sources : (asks : SampleText → Bool) (column : ℕ) (p : Profile) (ps : List Profile) → IsSettled (contents p ps) → HasValues (length (merged p ps).sample_type) (merged p ps)
    → AllByRecursion (HasValues (length p.sample_type)) (p ∷ ps) → column < length p.sample_type → column < length (merged p ps).sample_type
    → asked asks column (merged p ps) [] (merged p ps) ≡ total adding_ℤ (asked asks column p ps) (p ∷ ps)
asked_of_sources asks column p ps settled wide values within own =
    sym (+ℤ_idr (asked asks column (merged p ps) [] (merged p ps)))
    ∙ sym (grouped (merged p ps) [] (wide, tt) asks column own)
    ∙ ap (λ (c : Contents). total adding_ℤ (λ (item : SampleText × List ℤ). cond (asks item.0) (get_or item.1 column (pos 0)) (pos 0)) c.samples) (contents_again (contents p ps) settled)
    ∙ grouped p ps values asks column within

module _ (f : Finders) (config : Config) (column : ℕ) (divisor : config.presentation.divide_by ≡ 1) where
  -- the sample is among those that percentages are taken of, and it is one of the base's, too
  abbrev pub counts_in : SampleText → Bool
  counts_in t = cond config.presentation.relative_percentages (says f config column divisor (λ _. true) t) true

  abbrev pub counts_in_base : SampleText → Bool
  counts_in_base t = counts_in t && tell_base t.labels

  module _ (q : Profile) (plain : IsPlain q) (none : HasNoNegative column q) where
    abbrev all_of : Sample → ℕ
    all_of = all_size (seen q f config (Some column)) (selected (Some column) config.presentation.divide_by) (is_base q) config.presentation.relative_percentages

    abbrev base_of : Sample → ℕ
    base_of = base_size (seen q f config (Some column)) (selected (Some column) config.presentation.divide_by) (is_base q) config.presentation.relative_percentages

    -- what holds of each sample
    abbrev Sized : Sample → Type 0
    Sized s = (Fits q plain s) × (pos 0 ≤ℤ value_in s column)

    each_sized : AllByRecursion Sized q.sample
    each_sized = all_both (Fits q plain) (λ s. pos 0 ≤ℤ value_in s column) q.sample (each_fits q plain) none

    among_is : (s : Sample) → Sized s → cond config.presentation.relative_percentages (is_some (seen q f config (Some column) s)) true ≡ counts_in (told_in q [] q s)
    among_is s fits =
        ap (λ b. cond config.presentation.relative_percentages b true)
        (ap is_some (seen_said q plain f config (Some column) s fits.0) ∙ kept_told f config column divisor (saying q plain s))

    value_is : (s : Sample) → Sized s → pos (nat_abs (selected (Some column) config.presentation.divide_by s)) ≡ value_in s column
    value_is s fits =
        ap (λ d. pos (nat_abs (int_div (value_in s column) (pos d)))) divisor
        ∙ ap (λ v. pos (nat_abs v)) (by_one (value_in s column)) ∙ abs_above (value_in s column) fits.1

    all_each : (s : Sample) → Sized s → pos (all_of s) ≡ cond (counts_in (told_in q [] q s)) (value_in s column) (pos 0)
    all_each s fits =
        pos_if (cond config.presentation.relative_percentages (is_some (seen q f config (Some column) s)) true) (nat_abs (selected (Some column) config.presentation.divide_by s)) (value_in s column) (value_is s fits)
        ∙ ap (λ b. cond b (value_in s column) (pos 0)) (among_is s fits)

    base_each : (s : Sample) → Sized s → pos (base_of s) ≡ cond (counts_in_base (told_in q [] q s)) (value_in s column) (pos 0)
    base_each s fits =
        pos_if (cond config.presentation.relative_percentages (is_some (seen q f config (Some column) s)) true) (cond (is_base q s) (nat_abs (selected (Some column) config.presentation.divide_by s)) 0)
        (cond (is_base q s) (value_in s column) (pos 0))
        (pos_if (is_base q s) (nat_abs (selected (Some column) config.presentation.divide_by s)) (value_in s column) (value_is s fits))
        ∙ (λ i. cond (among_is s fits i) (cond (base_told q s i) (value_in s column) (pos 0)) (pos 0))
        ∙ if_both (counts_in (told_in q [] q s)) (tell_base (told_in q [] q s).labels) (value_in s column)

    all_told : pos (sum_by all_of q.sample) ≡ asked counts_in column q [] q
    all_told =
        sum_pos all_of q.sample
        ∙ sum_each (λ s. pos (all_of s)) (λ s. cond (counts_in (told_in q [] q s)) (value_in s column) (pos 0)) q.sample (all_by Sized _ all_each q.sample each_sized)
        ∙ sum_total (λ s. cond (counts_in (told_in q [] q s)) (value_in s column) (pos 0)) q.sample

    based_told : pos (sum_by base_of q.sample) ≡ asked counts_in_base column q [] q
    based_told =
        sum_pos base_of q.sample
        ∙ sum_each (λ s. pos (base_of s)) (λ s. cond (counts_in_base (told_in q [] q s)) (value_in s column) (pos 0)) q.sample (all_by Sized _ base_each q.sample each_sized)
        ∙ sum_total (λ s. cond (counts_in_base (told_in q [] q s)) (value_in s column) (pos 0)) q.sample

    -- The total, by what samples say.
    pub total_said : total_of q f config (Some column) ≡ total_by (nat_abs (asked counts_in_base column q [] q)) (nat_abs (asked counts_in column q [] q))
    total_said =
        (own_told q f config (Some column)).total
        ∙ (λ i. total_by (nat_abs (based_told i)) (nat_abs (all_told i)))
