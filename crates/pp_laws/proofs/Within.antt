-- How large the figures of a report can be.
use Rattle.std.proofs.Common.{◌≡◌, ℕ, ◌+◌, ◌≤◌, Bool, true, false, cond, nat_abs, List, [], ◌∷◌, Option, Some, None, option_map, refl, sym, ap, subst, ◌∙◌, ◌||◌, arith, ℤ, pos, negsuc}
use Rattle.std.specs.Prelude.{◌≤ℤ◌, int_div}
use Rattle.std.specs.List.{AllByRecursion, filter, list_any, cons_option}
use Rattle.std.specs.Option.{is_some}
use Rattle.std.proofs.lemmas.Bool.{false≢true}
use Rattle.std.proofs.lemmas.Int.{ints}
use Rattle.pp_model.specs.Sizes.{value_in}
use Rattle.std.proofs.lemmas.List.Sums.{sum_by-cons}
use Rattle.pp_model.specs.declared.config.Config.{Config}
use Rattle.pp_model.specs.declared.frame.Frame.{Frame}
use Rattle.pp_model.specs.declared.profile.Sample.{Sample}
use Rattle.pp_model.specs.declared.profile.Profile.{Profile}
use Rattle.pp_model.specs.declared.presentation.Presentation.{Presentation}
use Rattle.pp_model.specs.Finders.{Finders}
use Rattle.pp_model.specs.FrameTexts.{Written}
use Rattle.pp_grain.specs.Keys.{key_cmp}
use Rattle.pp_count.specs.Column.{selected}
use Rattle.pp_count.specs.Sums.{Seen, weighed, absolute, sum_where, has, leads, cum}
use Rattle.pp_count.specs.EdgeSums.{has_edge}
use Rattle.pp_count.specs.Seeing.{absolute_all, filtered_stack, seen_with, seen_samples}
use Rattle.pp_count.specs.Counts.{is_base, filtered_samples, total_by, total_over, total_of}
use Rattle.pp_count.proofs.Totals.{filter_size}
use Rattle.pp_laws.specs.Figures.{NoneNegative}
use Rattle.pp_laws.specs.Bounds.{FiguresWithin, ValuesWithin, SharedKeys, PercentagesWithin, EdgesWithin}
use Rattle.pp_laws.proofs.Sampling.{sum_where-weighed, sum_where_above, sum_where_within, sum_where_all, sum_where_bound, none_weighed, leads_has, edge_caller, edge_callee}

pub figures_within : FiguresWithin
figures_within p f config column k none =
    let seen : List (Seen Written) = seen_samples p f config column p.sample in
    let above = none_weighed seen none in
    record {
      above = sum_where_above (leads key_cmp k) (weighed seen) above;
      within = sum_where_within (leads key_cmp k) (has key_cmp k) (leads_has key_cmp k) (weighed seen) above;
      under = subst (λ v. cum key_cmp (weighed seen) k ≤ℤ v) (sum_where-weighed (λ _. true) seen)
          (sum_where_within (has key_cmp k) (λ _. true) (λ ks is. refl) (weighed seen) above);
    }

div_above : (v : ℤ) (d : ℕ) → pos 0 ≤ℤ v → pos 0 ≤ℤ int_div v (pos d)
div_above (pos n) d above = omega (arith, ints)
div_above (negsuc n) d above = absurd (omega (arith, ints, above))

pub values_within : ValuesWithin
values_within p f config column none = go p.sample none where
  go : (ss : List Sample) → AllByRecursion (λ s. pos 0 ≤ℤ value_in s column) ss → NoneNegative (seen_samples p f config (Some column) ss)
  go [] all = tt
  go (s ∷ ss) all =
      elim (filtered_stack p f config.filtering s) as (λ (o : Option (List Frame)). NoneNegative (cons_option (option_map (seen_with p config (Some column) s) o) (seen_samples p f config (Some column) ss))) [
        | None ↦ go ss all.1
        | Some stack ↦ (div_above (value_in s column) config.presentation.divide_by all.0, go ss all.1)
      ]

pub shared_keys : SharedKeys
shared_keys p f config column k all =
    let seen : List (Seen Written) = seen_samples p f config column p.sample in
    sum_where_all (has key_cmp k) (weighed seen) all ∙ sum_where-weighed (λ _. true) seen

pub edges_within : EdgesWithin
edges_within p f config column kept a b none =
    let seen : List (Seen Written) = seen_samples p f config column p.sample in
    let above = none_weighed seen none in
    record {
      above = sum_where_above (has_edge key_cmp kept a b) (weighed seen) above;
      caller = sum_where_within (has_edge key_cmp kept a b) (has key_cmp a) (edge_caller key_cmp kept a b) (weighed seen) above;
      callee = sum_where_within (has_edge key_cmp kept a b) (has key_cmp b) (edge_callee key_cmp kept a b) (weighed seen) above;
    }

-- the samples that are seen have the values of those that the filters leave
pub absolute_seen : (p : Profile) (f : Finders) (config : Config) (column : Option ℕ) (ss : List Sample)
    → absolute (seen_samples p f config column ss) ≡ absolute_all column config.presentation.divide_by (filtered_samples p f config.filtering ss)
absolute_seen p f config column [] = refl
absolute_seen p f config column (s ∷ ss) =
    elim (filtered_stack p f config.filtering s) as (λ (o : Option (List Frame)). absolute (cons_option (option_map (seen_with p config column s) o) (seen_samples p f config column ss))
    ≡ absolute_all column config.presentation.divide_by (cond (is_some o) (s ∷ filtered_samples p f config.filtering ss) (filtered_samples p f config.filtering ss))) [
      | None ↦ absolute_seen p f config column ss
      | Some stack ↦
          sum_by-cons (λ (t : Seen Written). nat_abs t.value) (seen_with p config column s stack) (seen_samples p f config column ss)
          ∙ ap (λ n. nat_abs (selected column config.presentation.divide_by s) + n) (absolute_seen p f config column ss)
          ∙ sym (sum_by-cons (λ (t : Sample). nat_abs (selected column config.presentation.divide_by t)) s (filtered_samples p f config.filtering ss))
    ]

none_left : (test : Sample → Bool) (ss : List Sample) → list_any test ss ≡ false → filter test ss ≡ []
none_left test [] none = refl
none_left test (s ∷ ss) none = elim (test s) as (λ b. (b || list_any test ss) ≡ false → cond b (s ∷ filter test ss) (filter test ss) ≡ []) [
  | true ↦ λ is. absurd (false≢true (sym is))
  | false ↦ λ is. none_left test ss is
] none

pub none_among : (test q : Sample → Bool) (ss : List Sample) → list_any test ss ≡ false → list_any test (filter q ss) ≡ false
none_among test q [] none = refl
none_among test q (s ∷ ss) none = elim (test s) as (λ b. test s ≡ b → (b || list_any test ss) ≡ false → list_any test (filter q (s ∷ ss)) ≡ false) [
  | true ↦ λ here is. absurd (false≢true (sym is))
  | false ↦ λ here is. elim (q s) as (λ b. list_any test (cond b (s ∷ filter q ss) (filter q ss)) ≡ false) [
    | true ↦ ap (λ b. b || list_any test (filter q ss)) here ∙ none_among test q ss is
    | false ↦ none_among test q ss is
  ]
] refl none

-- without a base the total is over all samples
pub plain_total : (p : Profile) (presentation : Presentation) (column : Option ℕ) (ss : List Sample) → list_any (is_base p) ss ≡ false
    → total_over p presentation column ss ≡ absolute_all column presentation.divide_by ss
plain_total p presentation column ss none =
    ap (λ base. total_by (absolute_all column presentation.divide_by base) (absolute_all column presentation.divide_by ss)) (none_left (is_base p) ss none)

seen_within : (p : Profile) (f : Finders) (config : Config) (column : Option ℕ) → list_any (is_base p) p.sample ≡ false
    → absolute (seen_samples p f config column p.sample) ≤ total_of p f config column
seen_within p f config column none =
    let size : Sample → ℕ = λ s. nat_abs (selected column config.presentation.divide_by s) in
    let filtered : List Sample = filtered_samples p f config.filtering p.sample in
    elim config.presentation.relative_percentages as (λ b. absolute (seen_samples p f config column p.sample) ≤ total_over p config.presentation column (cond b filtered p.sample)) [
      | true ↦ omega (arith, absolute_seen p f config column p.sample, plain_total p config.presentation column filtered (none_among (is_base p) (λ s. is_some (filtered_stack p f config.filtering s)) p.sample none))
      | false ↦ omega (arith, absolute_seen p f config column p.sample, plain_total p config.presentation column p.sample none, filter_size size (λ s. is_some (filtered_stack p f config.filtering s)) p.sample)
    ]

pub percentages_within : PercentagesWithin
percentages_within p f config column none =
    let seen : List (Seen Written) = seen_samples p f config column p.sample in
    let all : absolute seen ≤ total_of p f config column = seen_within p f config column none in
    let each : (test : List Written → Bool) → nat_abs (sum_where test (weighed seen)) ≤ total_of p f config column = λ test.
    omega (arith, all, sum_where_bound test seen, ap nat_abs (sum_where-weighed test seen)) in
    record {
      flat = λ k. each (leads key_cmp k);
      cum = λ k. each (has key_cmp k);
      edge = λ kept a b. each (has_edge key_cmp kept a b);
    }
