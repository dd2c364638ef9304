-- The samples that the filters leave, by their numbers.
use Rattle.std.proofs.Common.{◌≡◌, ℕ, zero, suc, ◌+◌, ◌<◌, ◌≤◌, ◌^◌, Bool, true, false, cond, nat_abs, ℤ, pos, negsuc, neg_ℤ, ◌/◌, List, [], ◌∷◌, ◌++◌, length, take, drop, Option, Some, None, refl, sym, ap, ◌∙◌, append_assoc, arith, length-append}
use Rattle.std.specs.Prelude.{int_div}
use Rattle.std.specs.List.{filter, filter_map, slice_get, sum_by, cons_option}
use Rattle.std.specs.Option.{is_some}
use Rattle.std.proofs.Math.Nat.{div-le_self}
use Rattle.std.proofs.lemmas.List.{append-nil, length-take-le, take-append-drop}
use Rattle.std.proofs.lemmas.List.Sums.{sum_by-cons, sum_by-le-sum_by}
use Rattle.pp_model.specs.Conditions.{IsColumnOf}
use Rattle.pp_model.specs.Sizes.{value_in, IsCountable}
use Rattle.std.proofs.lemmas.Option.{slice_get-get_or}
use Rattle.std.proofs.Math.Seq.{get_or-append_seam}
use Rattle.pp_model.specs.declared.config.Config.{Config}
use Rattle.pp_model.specs.declared.profile.Sample.{Sample}
use Rattle.pp_model.specs.declared.profile.Profile.{Profile}
use Rattle.pp_model.specs.declared.filtering.Filtering.{Filtering}
use Rattle.pp_model.specs.Finders.{Finders}
use Rattle.pp_count.specs.Column.{selected}
use Rattle.pp_count.specs.Seeing.{filtered_stack, filtered_from, numbers_from, absolute_all}
use Rattle.pp_count.specs.Counts.{samples_at, filtered_samples}
use Rattle.pp_count.proofs.Totals.{filter_size}

-- the item between two lists
at_seam : (before rest : List Sample) (s : Sample) → slice_get (before ++ s ∷ rest) (length before) ≡ Some s
at_seam before rest s =
    slice_get-get_or (before ++ s ∷ rest) (length before) s (omega (arith, length-append before (s ∷ rest))) ∙ ap Some (get_or-append_seam before s rest s)

-- the samples whose numbers are listed are those of the range that pass
listed : (test : Sample → Bool) (before range rest : List Sample)
    → filter_map (slice_get (before ++ (range ++ rest))) (numbers_from test (length before) range) ≡ filter test range
listed test before [] rest = refl
listed test before (s ∷ range) rest =
    let after : List Sample = range ++ rest in
    let one : length before + 1 ≡ length (before ++ s ∷ []) = omega (arith, length-append before (s ∷ [])) in
    let next : filter_map (slice_get (before ++ s ∷ after)) (numbers_from test (length before + 1) range) ≡ filter test range =
    ap (λ (xs : List Sample). filter_map (slice_get xs) (numbers_from test (length before + 1) range)) (sym (append_assoc before (s ∷ []) after))
    ∙ ap (λ (n : ℕ). filter_map (slice_get ((before ++ s ∷ []) ++ after)) (numbers_from test n range)) one
    ∙ listed test (before ++ s ∷ []) range rest in
    elim (test s) as (λ b. filter_map (slice_get (before ++ s ∷ after)) (cond b (length before ∷ numbers_from test (length before + 1) range) (numbers_from test (length before + 1) range)) ≡ cond b (s ∷ filter test range) (filter test range)) [
      | true ↦ λ i. cons_option (at_seam before after s i) (next i)
      | false ↦ next
    ]

-- the samples of the numbers that the filters leave
pub kept_samples : (p : Profile) (f : Finders) (filtering : Filtering) (kept : List ℕ) → kept ≡ filtered_from p f filtering 0 p.sample
    → samples_at p kept ≡ filtered_samples p f filtering p.sample
kept_samples p f filtering kept is =
    let test : Sample → Bool = λ s. is_some (filtered_stack p f filtering s) in
    ap (samples_at p) is
    ∙ ap (λ (ss : List Sample). filter_map (slice_get ss) (numbers_from test 0 p.sample)) (sym (append-nil p.sample))
    ∙ listed test [] p.sample []

-- their values are within those of all samples
pub kept_fits : (p : Profile) (f : Finders) (config : Config) (column : Option ℕ) (kept : List ℕ) → kept ≡ filtered_from p f config.filtering 0 p.sample
    → absolute_all column config.presentation.divide_by p.sample < 2 ^ 63 → absolute_all column config.presentation.divide_by (samples_at p kept) < 2 ^ 63
kept_fits p f config column kept is fits =
    let size : Sample → ℕ = λ x. nat_abs (selected column config.presentation.divide_by x) in
    omega (arith, fits, ap (sum_by size) (kept_samples p f config.filtering kept is), filter_size size (λ s. is_some (filtered_stack p f config.filtering s)) p.sample)

negated : (n : ℕ) → nat_abs (neg_ℤ (pos n)) ≤ n
negated zero = omega arith
negated (suc n) = omega arith

-- a quotient is within what is divided
quotient_within : (z : ℤ) (d : ℕ) → nat_abs (int_div z (pos d)) ≤ nat_abs z
quotient_within (pos n) d = div-le_self n d
quotient_within (negsuc n) d = omega (arith, negated (suc n / d), div-le_self (suc n) d)

-- the selected values of a countable profile can be added up
pub values_fit : (p : Profile) (column : Option ℕ) (d : ℕ) → IsCountable p → IsColumnOf p column → absolute_all column d p.sample < 2 ^ 63
values_fit p None d countable is = omega (arith, none_size p.sample) where
  none_size : (ss : List Sample) → absolute_all None d ss ≡ 0
  none_size [] = omega arith
  none_size (s ∷ ss) = omega (arith, none_size ss, sum_by-cons (λ (x : Sample). nat_abs (selected None d x)) s ss)
values_fit p (Some c) d countable is =
    omega (arith, countable.sums c is, sum_by-le-sum_by (λ (s : Sample). nat_abs (selected (Some c) d s)) (λ (s : Sample). nat_abs (value_in s c)) p.sample (λ s. quotient_within (value_in s c) d))
