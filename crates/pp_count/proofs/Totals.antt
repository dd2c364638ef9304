-- Sums over samples with given numbers, and over ranges of samples.
use Rattle.std.proofs.Common.{◌≡◌, ℕ, ◌+◌, ◌<◌, ◌≤◌, ◌^◌, ltb, ⊎_elim, Bool, true, false, cond, nat_abs, List, [], ◌∷◌, ◌++◌, length, take, get_or, Option, Some, None, refl, sym, ap, ◌∙◌, subst, arith}
use Rattle.std.specs.List.{filter, slice_get, sum_by, cons_option}
use Rattle.std.specs.Option.{is_some}
use Rattle.std.proofs.lemmas.Bool.{false≢true, lt-ltb}
use Rattle.std.proofs.lemmas.Option.{slice_get_read, slice_get_cases}
use Rattle.std.proofs.lemmas.List.{take_more, append-nil}
use Rattle.std.proofs.lemmas.List.Elements.{filter_map-append, filter-append}
use Rattle.std.proofs.lemmas.List.Sums.{sum_by-append, sum_by-cons}
use Rattle.pp_model.specs.declared.config.Config.{Config}
use Rattle.pp_model.specs.declared.profile.Sample.{Sample}
use Rattle.pp_model.specs.declared.profile.Profile.{Profile}
use Rattle.pp_model.specs.declared.presentation.Presentation.{Presentation}
use Rattle.pp_model.specs.Finders.{Finders}
use Rattle.pp_count.specs.declared.scope.Scope.{Scope}
use Rattle.pp_count.specs.declared.total.Totals.{Totals}
use Rattle.pp_count.specs.Column.{selected}
use Rattle.pp_count.specs.Seeing.{HoldsFilters, filtered_stack, absolute_all}
use Rattle.pp_count.specs.Counts.{is_base, samples_at, filtered_samples, samples_of_total, total_by, total_of}
use Rattle.pp_count.specs.Scope.{profile_in_scope, config_of, HasTotals}
use Rattle.pp_count.specs.Totals.{AreTotals, totals_plus}

pub at_more : (p : Profile) (kept : List ℕ) (i : ℕ) → i < length kept
    → samples_at p (take (i + 1) kept) ≡ samples_at p (take i kept) ++ cons_option (slice_get p.sample (get_or kept i 0)) []
at_more p kept i here = ap (samples_at p) (take_more kept i 0 here) ∙ filter_map-append (slice_get p.sample) (take i kept) (get_or kept i 0 ∷ [])

-- the sums over no samples
pub totals_none : (p : Profile) (presentation : Presentation) (column : Option ℕ) (t : Totals) → t ≡ record { all = 0; base = 0 } → AreTotals p presentation column [] t
totals_none p presentation column t none = record { all = omega (arith, ap (λ x. x.all) none); base = omega (arith, ap (λ x. x.base) none) }

-- the sums over two ranges
pub totals_more : (p : Profile) (presentation : Presentation) (column : Option ℕ) (a b : List Sample) (t u new : Totals)
    → new ≡ totals_plus t u → AreTotals p presentation column a t → AreTotals p presentation column b u → AreTotals p presentation column (a ++ b) new
totals_more p presentation column a b t u new plus first second =
    let f : Sample → ℕ = λ x. nat_abs (selected column presentation.divide_by x) in
    record {
      all = omega (arith, ap (λ x. x.all) plus, first.all, second.all, sum_by-append f a b);
      base = omega (
        arith,
        ap (λ x. x.base) plus,
        first.base,
        second.base,
        ap (sum_by f) (filter-append (is_base p) a b) ∙ sum_by-append f (filter (is_base p) a) (filter (is_base p) b),
      );
    }

pub filter_size : (f : Sample → ℕ) (q : Sample → Bool) (ss : List Sample) → sum_by f (filter q ss) ≤ sum_by f ss
filter_size f q [] = omega arith
filter_size f q (s ∷ ss) =
    elim (q s) as (λ b. sum_by f (cond b (s ∷ filter q ss) (filter q ss)) ≤ sum_by f (s ∷ ss)) [
      | true ↦ omega (arith, filter_size f q ss, sum_by-cons f s ss, sum_by-cons f s (filter q ss))
      | false ↦ omega (arith, filter_size f q ss, sum_by-cons f s ss)
    ]

-- of no samples nothing is left
pub scope_totals_none : (p : Profile) (f : Finders) (config : Config) (column : Option ℕ) (t : Totals) → t ≡ record { all = 0; base = 0 }
    → AreTotals p config.presentation column (samples_of_total p f config []) t
scope_totals_none p f config column t none =
    elim config.presentation.relative_percentages as (λ r. AreTotals p config.presentation column (cond r (filtered_samples p f config.filtering []) []) t) [
      | true ↦ totals_none p config.presentation column t none
      | false ↦ totals_none p config.presentation column t none
    ]

-- the totals of two ranges of the scope
pub scope_totals_more : (scope : Scope) (a b : List Sample) (t u new : Totals) → new ≡ totals_plus t u
    → HasTotals scope a t → HasTotals scope b u → HasTotals scope (a ++ b) new
scope_totals_more scope a b t u new plus before next whole f holds =
    let p = profile_in_scope scope in
    let config = config_of scope in
    let of_total : List Sample → List Sample = samples_of_total p f config in
    let both : of_total (a ++ b) ≡ of_total a ++ of_total b =
    elim config.presentation.relative_percentages as (λ r. cond r (filtered_samples p f config.filtering (a ++ b)) (a ++ b) ≡ cond r (filtered_samples p f config.filtering a) a ++ cond r (filtered_samples p f config.filtering b) b) [
      | true ↦ filter-append _ a b
      | false ↦ refl
    ] in
    subst (λ ss. AreTotals p config.presentation scope.column ss new) (sym both)
    (totals_more p config.presentation scope.column (of_total a) (of_total b) t u new plus (before whole f holds) (next whole f holds))

-- what percentages are taken of, where the values fit
pub total_is : (p : Profile) (f : Finders) (config : Config) (column : Option ℕ) (t : Totals) → absolute_all column config.presentation.divide_by p.sample < 2 ^ 63
    → AreTotals p config.presentation column (samples_of_total p f config p.sample) t → total_by t.base t.all ≡ total_of p f config column
total_is p f config column t fits are =
    let size : Sample → ℕ = λ x. nat_abs (selected column config.presentation.divide_by x) in
    let ss : List Sample = samples_of_total p f config p.sample in
    let within : sum_by size ss < 2 ^ 63 =
    elim config.presentation.relative_percentages as (λ r. sum_by size (cond r (filtered_samples p f config.filtering p.sample) p.sample) < 2 ^ 63) [
      | true ↦ omega (arith, fits, filter_size size (λ s. is_some (filtered_stack p f config.filtering s)) p.sample)
      | false ↦ fits
    ] in
    let base_is : t.base ≡ sum_by size (filter (is_base p) ss) = omega (arith, within, are.base, filter_size size (is_base p) ss) in
    let all_is : t.all ≡ sum_by size ss = omega (arith, within, are.all) in
    λ i. total_by (base_is i) (all_is i)

-- the totals of the samples so far, and of one more
pub totals_next : (scope : Scope) (samples : List Sample) (i : ℕ) (s : Sample) (t u new : Totals) → i < length samples → s ≡ get_or samples i s
    → new ≡ totals_plus t u → HasTotals scope (take i samples) t → HasTotals scope (s ∷ []) u → HasTotals scope (take (i + 1) samples) new
totals_next scope samples i s t u new here is plus so_far next =
    subst (λ (ss : List Sample). HasTotals scope ss new)
    (ap (λ x. take i samples ++ x ∷ []) is ∙ sym (take_more samples i s here))
    (scope_totals_more scope (take i samples) (s ∷ []) t u new plus so_far next)
