-- The order of samples does not matter.
use Rattle.std.proofs.Common.{◌≡◌, ℕ, ◌+◌, Bool, true, false, cond, not, ◌&&◌, ◌||◌, ℤ, pos, nat_abs, List, [], ◌∷◌, Option, Some, None, option_map, refl, sym, ap, ◌∙◌, arith}
use Rattle.std.specs.List.{filter, filter_map, list_any, sum_by, cons_option}
use Rattle.std.specs.List.Sorted.{IsPermutation}
use Rattle.std.specs.Option.{is_some, option_map_or}
use Rattle.std.specs.Ordering.{int_eq}
use Rattle.std.proofs.lemmas.List.Sorted.{list_any-IsPermutation, sum_by-IsPermutation}
use Rattle.std.proofs.lemmas.List.Sums.{sum_by-cons}
use Rattle.pp_model.specs.declared.config.Config.{Config}
use Rattle.pp_model.specs.declared.presentation.Sort.{Sort}
use Rattle.pp_model.specs.declared.frame.Frame.{Frame}
use Rattle.pp_model.specs.declared.profile.Profile.{Profile}
use Rattle.pp_model.specs.declared.profile.Sample.{Sample}
use Rattle.pp_model.specs.Finders.{Finders}
use Rattle.pp_model.specs.FrameTexts.{Written}
use Rattle.pp_grain.specs.Keys.{key_cmp}
use Rattle.pp_count.specs.Column.{column_of, selected}
use Rattle.pp_count.specs.Sums.{Seen, weighed, sum_where, has, leads, occurs, flat, cum, all_keys}
use Rattle.pp_count.specs.EdgeSums.{has_edge}
use Rattle.pp_count.specs.Seeing.{filtered_stack, seen_with, seen}
use Rattle.pp_count.specs.Counts.{is_base, filtered_samples, total_by, total_over, total_of}
use Rattle.pp_count.specs.Counted.{report_samples}
use Rattle.pp_count.specs.Ranks.{each_once, is_heavy}
use Rattle.pp_graph.specs.Sampled.{is_heavy_cum, report_order}
use Rattle.pp_graph.specs.Trim.{shown_keys, sums_order}
use Rattle.pp_laws.specs.Order.{HaveSameFigures, with_samples, OrderIsFree}
use Rattle.pp_laws.proofs.IntSums.{sum_permuted}
use Rattle.pp_laws.proofs.Sampling.{part, sum_seen}
use Rattle.pp_graph.proofs.Relisted.{keys_alike}

-- the sum over the items that a filter leaves, as one over all
sum_filtered : {X : Type 0} (f : X → ℕ) (test : X → Bool) (xs : List X) → sum_by f (filter test xs) ≡ sum_by (λ x. cond (test x) (f x) 0) xs
sum_filtered f test [] = refl
sum_filtered f test (x ∷ xs) =
    elim (test x) as (λ b. sum_by f (cond b (x ∷ filter test xs) (filter test xs)) ≡ cond b (f x) 0 + sum_by (λ y. cond (test y) (f y) 0) xs) [
      | true ↦ sum_by-cons f x (filter test xs) ∙ ap (λ n. f x + n) (sum_filtered f test xs)
      | false ↦ omega (arith, sum_filtered f test xs)
    ] ∙ sym (sum_by-cons (λ y. cond (test y) (f y) 0) x xs)

-- whether one of the samples that are seen passes, as a question to all
any_seen : {X Y : Type 0} (test : Seen Y → Bool) (g : X → Option (Seen Y)) (xs : List X)
    → list_any test (weighed (filter_map g xs)) ≡ list_any (λ x. option_map_or (λ s. not (int_eq s.value (pos 0)) && test s) (g x) false) xs
any_seen test g [] = refl
any_seen {Y = Y} test g (x ∷ xs) =
    let rest : Bool = list_any (λ y. option_map_or (λ s. not (int_eq s.value (pos 0)) && test s) (g y) false) xs in
    elim (g x) as (λ o. list_any test (weighed (cons_option o (filter_map g xs))) ≡ (option_map_or (λ s. not (int_eq s.value (pos 0)) && test s) o false || rest)) [
      | None ↦ any_seen test g xs
      | Some s ↦ elim (not (int_eq s.value (pos 0))) as (λ b. list_any test (cond b (s ∷ weighed (filter_map g xs)) (weighed (filter_map g xs))) ≡ ((b && test s) || rest)) [
        | true ↦ ap (λ r. test s || r) (any_seen test g xs)
        | false ↦ any_seen test g xs
      ]
    ]

-- samples with the same sums and the same keys show the same rows
same_rows : (sort : Sort) (total other billionths : ℕ) (ss ts : List (Seen Written)) → total ≡ other
    → ((k : Written) → flat key_cmp ss k ≡ flat key_cmp ts k) → ((k : Written) → cum key_cmp ss k ≡ cum key_cmp ts k)
    → ((k : Written) → occurs key_cmp ss k ≡ occurs key_cmp ts k)
    → each_once (report_order key_cmp sort ss) (filter (is_heavy_cum key_cmp total billionths ss) (each_once key_cmp (all_keys ss)))
    ≡ each_once (report_order key_cmp sort ts) (filter (is_heavy_cum key_cmp other billionths ts) (each_once key_cmp (all_keys ts)))
same_rows sort total other billionths ss ts totals flats cums occur = λ i.
    each_once (sums_order sort (λ k. flats k i) (λ k. cums k i) key_cmp)
    (filter (λ k. is_heavy (totals i) billionths (cums k i)) (keys_alike ss ts occur i))

-- What reports are told from: items of which each is seen or dropped, has a value, and is of the base or isn't.
module _ {X : Type 0} (sees : X → Option (Seen Written)) (value : X → ℤ) (is_one : X → Bool) where
  -- what an item adds to a sum over all, or over those that the filters leave
  abbrev among : Bool → (X → ℕ) → X → ℕ
  among relative size x = cond (cond relative (is_some (sees x)) true) (size x) 0

  -- what it adds to the total of all, and to that of the base
  abbrev pub all_size : Bool → X → ℕ
  all_size relative = among relative (λ x. nat_abs (value x))

  abbrev pub base_size : Bool → X → ℕ
  base_size relative = among relative (λ x. cond (is_one x) (nat_abs (value x)) 0)

  -- A report of the profile is told from these items.
  pub record IsToldFrom (xs : List X) (p : Profile) (f : Finders) (config : Config) (column : Option ℕ) : Type 0 where
    pub samples : report_samples p f config column ≡ weighed (filter_map sees xs)
    pub total : total_of p f config column
        ≡ total_by (sum_by (base_size config.presentation.relative_percentages) xs) (sum_by (all_size config.presentation.relative_percentages) xs)

  -- Reports that are told from the same items, in any order, have the same figures.
  module _ (xs ys : List X) (moved : IsPermutation xs ys) (p q : Profile) (f : Finders) (config : Config) (column : Option ℕ)
      (first : IsToldFrom xs p f config column) (second : IsToldFrom ys q f config column) where
    sums : (test : List Written → Bool) → sum_where test (report_samples p f config column) ≡ sum_where test (report_samples q f config column)
    sums test =
        ap (sum_where test) first.samples ∙ sum_seen test sees xs
        ∙ sym (sum_permuted (λ x. option_map_or (part test) (sees x) (pos 0)) xs ys moved)
        ∙ sym (sum_seen test sees ys) ∙ ap (sum_where test) (sym second.samples)

    finds : (test : List Written → Bool) → list_any (λ s. test s.keys) (report_samples p f config column) ≡ list_any (λ s. test s.keys) (report_samples q f config column)
    finds test =
        ap (list_any (λ s. test s.keys)) first.samples ∙ any_seen (λ s. test s.keys) sees xs
        ∙ list_any-IsPermutation (λ x. option_map_or (λ s. not (int_eq s.value (pos 0)) && test s.keys) (sees x) false) xs ys moved
        ∙ sym (any_seen (λ s. test s.keys) sees ys) ∙ ap (list_any (λ s. test s.keys)) (sym second.samples)

    totals : total_of p f config column ≡ total_of q f config column
    totals =
        first.total
        ∙ (λ i. total_by (sym (sum_by-IsPermutation (base_size config.presentation.relative_percentages) xs ys moved) i) (sym (sum_by-IsPermutation (all_size config.presentation.relative_percentages) xs ys moved) i))
        ∙ sym second.total

    pub same_figures : ((text : List ℕ) → column_of p text ≡ column_of q text) → HaveSameFigures p q f config column
    same_figures columns = record {
      columns = columns;
      occur = λ k. finds (has key_cmp k);
      flat = λ k. sums (leads key_cmp k);
      cum = λ k. sums (has key_cmp k);
      edge_occurs = λ kept a b. finds (has_edge key_cmp kept a b);
      edge = λ kept a b. sums (has_edge key_cmp kept a b);
      total = totals;
      rows = λ limit. ap (shown_keys limit) (same_rows config.presentation.sort (total_of p f config column) (total_of q f config column) config.presentation.nodefraction.billionths
          (report_samples p f config column) (report_samples q f config column) totals
          (λ k. sums (leads key_cmp k)) (λ k. sums (has key_cmp k)) (λ k. finds (has key_cmp k)));
    }

module _ (p : Profile) (f : Finders) (config : Config) (column : Option ℕ) where
  abbrev size : Sample → ℕ
  size s = nat_abs (selected column config.presentation.divide_by s)

  -- the total as sums over all samples
  total_told : total_of p f config column
      ≡ total_by (sum_by (base_size (seen p f config column) (selected column config.presentation.divide_by) (is_base p) config.presentation.relative_percentages) p.sample)
      (sum_by (all_size (seen p f config column) (selected column config.presentation.divide_by) (is_base p) config.presentation.relative_percentages) p.sample)
  total_told =
      let kept_seen : (s : Sample) → is_some (filtered_stack p f config.filtering s) ≡ is_some (seen p f config column s) = λ s.
      elim (filtered_stack p f config.filtering s) as (λ (o : Option (List Frame)). is_some o ≡ is_some (option_map (seen_with p config column s) o)) [ None ↦ refl | Some stack ↦ refl ] in
      elim config.presentation.relative_percentages as (λ b. total_over p config.presentation column (cond b (filtered_samples p f config.filtering p.sample) p.sample)
      ≡ total_by (sum_by (base_size (seen p f config column) (selected column config.presentation.divide_by) (is_base p) b) p.sample)
      (sum_by (all_size (seen p f config column) (selected column config.presentation.divide_by) (is_base p) b) p.sample)) [
        | true ↦
            let kept : Sample → Bool = λ s. is_some (seen p f config column s) in
            (λ i. total_over p config.presentation column (filter (λ s. kept_seen s i) p.sample))
            ∙ (λ i. total_by ((sum_filtered size (is_base p) (filter kept p.sample) ∙ sum_filtered (λ s. cond (is_base p s) (size s) 0) kept p.sample) i) (sum_filtered size kept p.sample i))
        | false ↦ λ i. total_by (sum_filtered size (is_base p) p.sample i) (sum_by size p.sample)
      ]

  -- A report is told from the profile's own samples.
  pub own_told : IsToldFrom (seen p f config column) (selected column config.presentation.divide_by) (is_base p) p.sample p f config column
  own_told = record { samples = refl; total = total_told }

pub order_is_free : OrderIsFree
order_is_free p samples f config column moved =
    same_figures (seen p f config column) (selected column config.presentation.divide_by) (is_base p) p.sample samples moved p (with_samples samples p) f config column
    (own_told p f config column) (own_told (with_samples samples p) f config column) (λ text. refl)
