-- What `rank` gives is the ranking of the report.
use Rattle.std.proofs.Common.{◌≡◌, ◌≢◌, ℕ, zero, suc, inl, inr, eqb, ◌<◌, ◌≤◌, ◌^◌, true, false, cond, not, pos, nat_abs, List, [], ◌∷◌, length, map, take, get_or, Option, All, refl, sym, ap, subst, ◌∙◌, arith}
use Rattle.std.specs.List.{filter, range_with_len, sum_by, AllPairs}
use Rattle.std.specs.Cmp.{unsigned_Decides}
use Rattle.std.proofs.lemmas.Bool.{cases_eq, eq-eqb}
use Rattle.std.proofs.lemmas.List.Kept.{AllPairs-filter}
use Rattle.std.proofs.lemmas.Map.Keys.{IsDistinct-IsPermutation}
use Rattle.std.proofs.lemmas.Map.Made.{IsDistinct-from_AllPairs, AllPairs-from_IsDistinct}
use Rattle.pp_graph.proofs.Chaining.{eqb-not}
use Rattle.std.proofs.lemmas.List.{length-map, take-map}
use Rattle.std.proofs.lemmas.List.FromFn.{fill_by_all, length-range_with_len, get_or-range_with_len}
use Rattle.std.proofs.lemmas.List.Filters.{sum_by-filter_both}
use Rattle.std.proofs.lemmas.List.Sorted.{sum_by-IsPermutation}
use Rattle.std.proofs.lemmas.List.Sums.{sum_by-take-le, sum_by-cons}
use Rattle.pp_model.specs.declared.config.Config.{Config}
use Rattle.pp_model.specs.declared.presentation.Sort.{Sort}
use Rattle.pp_model.specs.declared.loaded.Loaded.{Loaded}
use Rattle.pp_model.specs.declared.profile.Profile.{Profile}
use Rattle.pp_model.specs.declared.verdicts.Verdicts.{Verdicts}
use Rattle.pp_model.specs.Finders.{Finders}
use Rattle.pp_grain.specs.Keys.{key_cmp}
use Rattle.pp_count.specs.declared.counted.Counted.{Counted}
use Rattle.pp_count.specs.declared.sums.Sums.{Sums}
use Rattle.pp_count.specs.Sums.{flat}
use Rattle.pp_count.specs.Seeing.{HoldsFilters}
use Rattle.pp_count.specs.Counts.{total_of}
use Rattle.pp_count.specs.Counted.{FitSums, IsCountedOf, report_samples}
use Rattle.pp_graph.specs.declared.heavy.RankedRow.{RankedRow}
use Rattle.pp_graph.specs.declared.ranking.Ranked.{Ranked}
use Rattle.pp_graph.specs.Sampled.{heavy_listed, light_count}
use Rattle.pp_graph.specs.Trim.{shown_keys, report_keys, candidate_keys, light_nodes}
use Rattle.pp_graph.specs.Trimmed.{int_sum, written_order, IsRankedOf}
use Rattle.pp_graph.specs.Ranks.{sum_of_name, IsRankedRow, is_heavy_number, heavy_numbers, AreRanked}
use Rattle.pp_graph.proofs.Relisted.{candidates_listed, light_counted}
use Rattle.pp_graph.proofs.Shown.{All-with, All-map, shown_all, order_is, candidates_are, flats_are, light_is}

sum_by-map : {A B : Type 0} (g : B → ℕ) (f : A → B) (xs : List A) → sum_by g (map f xs) ≡ sum_by (λ x. g (f x)) xs
sum_by-map g f [] = refl
sum_by-map g f (x ∷ xs) = omega (arith, sum_by-cons g (f x) (map f xs), sum_by-cons (λ y. g (f y)) x xs, sum_by-map g f xs)

-- what is taken of a list
length-take_most : (k : ℕ) (xs : List ℕ) → (length (take k xs) ≤ k) × (length (take k xs) ≤ length xs)
length-take_most zero xs = (omega arith, omega arith)
length-take_most (suc k) [] = (omega arith, omega arith)
length-take_most (suc k) (x ∷ xs) = (omega (arith, (length-take_most k xs).0), omega (arith, (length-take_most k xs).1))

get_or-take : (k : ℕ) (xs : List ℕ) (i d : ℕ) → i < k → get_or (take k xs) i d ≡ get_or xs i d
get_or-take zero xs i d within = absurd (omega (arith, within))
get_or-take (suc k) [] i d within = refl
get_or-take (suc k) (x ∷ xs) zero d within = refl
get_or-take (suc k) (x ∷ xs) (suc i) d within = get_or-take k xs i d (omega (arith, within))

eqb-flips : (a b : ℕ) → eqb a b ≡ eqb b a
eqb-flips a b = elim (cases_eq a b) [
  | inl is ↦ eq-eqb a b is ∙ sym (eq-eqb b a (sym is))
  | inr apart ↦ eqb-not a b apart ∙ sym (eqb-not b a (λ is. apart (sym is)))
]

module _ (p : Profile) (sort : Sort) (sums : Sums) (fits : FitSums sums) (total billionths : ℕ) (rows : List RankedRow) (light limit : ℕ) (ranked : AreRanked p sort sums total billionths rows light) where
  -- the numbers of the rows that are shown
  abbrev pub shown_numbers : List ℕ
  shown_numbers = map (λ (r : RankedRow). r.number) (shown_keys limit rows)

  pub numbers_below : All (λ n. n < length sums.names) shown_numbers
  numbers_below = All-map (λ n. n < length sums.names) (λ (r : RankedRow). r.number) (shown_keys limit rows)
      (All-with {P = IsRankedRow p sort sums} (λ r w. w.below) (shown_keys limit rows) (shown_all (IsRankedRow p sort sums) limit rows ranked.rows_are))

  all_flats : sum_by (λ n. nat_abs (sum_of_name sums.flat n)) (range_with_len 0 (length sums.names)) ≡ sum_by nat_abs sums.flat
  all_flats =
      sym (sum_by-map nat_abs (sum_of_name sums.flat) (range_with_len 0 (length sums.names)))
      ∙ ap (sum_by nat_abs) (sym (fill_by_all (sum_of_name sums.flat) sums.flat (length sums.names) (pos 0) fits.flats (λ k within. refl)))

  shown_part : sum_by (λ n. nat_abs (sum_of_name sums.flat n)) shown_numbers ≤ sum_by (λ n. nat_abs (sum_of_name sums.flat n)) (map (λ (r : RankedRow). r.number) rows)
  shown_part = elim (eqb limit 0) as (λ b. sum_by (λ n. nat_abs (sum_of_name sums.flat n)) (map (λ (r : RankedRow). r.number) (cond b rows (take limit rows))) ≤ sum_by (λ n. nat_abs (sum_of_name sums.flat n)) (map (λ (r : RankedRow). r.number) rows)) [
    | true ↦ omega arith
    | false ↦ omega (arith, ap (sum_by (λ n. nat_abs (sum_of_name sums.flat n))) (take-map (λ (r : RankedRow). r.number) limit rows), sum_by-take-le (λ n. nat_abs (sum_of_name sums.flat n)) (map (λ (r : RankedRow). r.number) rows) limit)
  ]

  range_apart : (n : ℕ) → AllPairs (λ a b. a ≢ b) (range_with_len 0 n)
  range_apart n i j d below within same =
      omega (
        arith,
        below,
        within,
        length-range_with_len 0 n,
        same,
        get_or-range_with_len 0 n i d (omega (arith, below, within, length-range_with_len 0 n)),
        get_or-range_with_len 0 n j d (omega (arith, within, length-range_with_len 0 n)),
      )

  rows_apart : AllPairs (λ a b. a ≢ b) (map (λ (r : RankedRow). r.number) rows)
  rows_apart = AllPairs-from_IsDistinct unsigned_Decides (map (λ (r : RankedRow). r.number) rows)
      (IsDistinct-IsPermutation eqb eqb-flips (heavy_numbers total billionths sums (length sums.names)) (map (λ (r : RankedRow). r.number) rows) ranked.numbers
      (IsDistinct-from_AllPairs unsigned_Decides (heavy_numbers total billionths sums (length sums.names))
      (AllPairs-filter (λ a b. a ≢ b) (is_heavy_number total billionths sums) (range_with_len 0 (length sums.names)) (range_apart (length sums.names)))))

  take_apart : (k : ℕ) (xs : List ℕ) → AllPairs (λ a b. a ≢ b) xs → AllPairs (λ a b. a ≢ b) (take k xs)
  take_apart k xs apart i j d below within same =
      apart i j d below (omega (arith, within, length-take_most k xs))
      (sym (get_or-take k xs i d (omega (arith, below, within, length-take_most k xs))) ∙ same ∙ get_or-take k xs j d (omega (arith, within, length-take_most k xs)))

  -- no number stands twice
  pub numbers_apart : AllPairs (λ a b. a ≢ b) shown_numbers
  numbers_apart = elim (eqb limit 0) as (λ b. AllPairs (λ a c. a ≢ c) (map (λ (r : RankedRow). r.number) (cond b rows (take limit rows)))) [
    | true ↦ rows_apart
    | false ↦ subst (AllPairs (λ a c. a ≢ c)) (take-map (λ (r : RankedRow). r.number) limit rows) (take_apart limit (map (λ (r : RankedRow). r.number) rows) rows_apart)
  ]

  -- their flats can be added up
  pub numbers_small : sum_by (λ n. nat_abs (sum_of_name sums.flat n)) shown_numbers < 2 ^ 63
  numbers_small = omega (
    arith,
    shown_part,
    all_flats,
    fits.small,
    sum_by-IsPermutation (λ n. nat_abs (sum_of_name sums.flat n)) (heavy_numbers total billionths sums (length sums.names)) (map (λ (r : RankedRow). r.number) rows) ranked.numbers,
    sum_by-filter_both (is_heavy_number total billionths sums) (λ n. not (is_heavy_number total billionths sums n)) (λ _. refl) (λ n. nat_abs (sum_of_name sums.flat n)) (range_with_len 0 (length sums.names)),
  )

module _ (l : Loaded) (v : Verdicts) (config : Config) (column : Option ℕ) (limit : ℕ) (c : Counted) (rows : List RankedRow) (light : ℕ)
    (counted : IsCountedOf l v config column c) (ranked : AreRanked l.profile config.presentation.sort c.sums c.total config.presentation.nodefraction.billionths rows light) where
  pub ranked_of : (t : Ranked) → t.order ≡ map (λ (r : RankedRow). r.number) (shown_keys limit rows) → t.shown_flat ≡ int_sum (map (sum_of_name c.sums.flat) t.order)
      → t.dropped_nodes ≡ light → t.candidates ≡ length rows → IsRankedOf l v config column limit c t
  ranked_of t order flats light_is_t rows_are = record {
    below = subst (All (λ n. n < length c.sums.names)) (sym order) (numbers_below l.profile config.presentation.sort c.sums counted.fits c.total config.presentation.nodefraction.billionths rows light limit ranked);
    once = subst (AllPairs (λ a b. a ≢ b)) (sym order) (numbers_apart l.profile config.presentation.sort c.sums counted.fits c.total config.presentation.nodefraction.billionths rows light limit ranked);
    small = subst (λ xs. sum_by (λ n. nat_abs (sum_of_name c.sums.flat n)) xs < 2 ^ 63) (sym order) (numbers_small l.profile config.presentation.sort c.sums counted.fits c.total config.presentation.nodefraction.billionths rows light limit ranked);
    keys = λ f h.
        ap (written_order l.profile c.sums.names) order
        ∙ order_is l.profile (report_samples l.profile f config column) c.sums counted.fits (counted.sums_are f h) config.presentation.sort c.total config.presentation.nodefraction.billionths rows light ranked limit
        ∙ ap (λ n. shown_keys limit (heavy_listed key_cmp config.presentation.sort n config.presentation.nodefraction.billionths (report_samples l.profile f config column))) (counted.total_is f h)
        ∙ ap (shown_keys limit) (sym (candidates_listed l.profile f config column));
    shown_flat = λ f h.
        flats ∙ ap (λ xs. int_sum (map (sum_of_name c.sums.flat) xs)) order
        ∙ ap int_sum (flats_are l.profile (report_samples l.profile f config column) c.sums counted.fits (counted.sums_are f h) config.presentation.sort c.total config.presentation.nodefraction.billionths rows light ranked limit)
        ∙ ap (λ n. int_sum (map (flat key_cmp (report_samples l.profile f config column)) (shown_keys limit (heavy_listed key_cmp config.presentation.sort n config.presentation.nodefraction.billionths (report_samples l.profile f config column))))) (counted.total_is f h)
        ∙ ap (λ ks. int_sum (map (flat key_cmp (report_samples l.profile f config column)) (shown_keys limit ks))) (sym (candidates_listed l.profile f config column));
    dropped_nodes = λ f h.
        light_is_t ∙ ranked.too_light
        ∙ light_is l.profile (report_samples l.profile f config column) c.sums counted.fits (counted.sums_are f h) c.total config.presentation.nodefraction.billionths
        ∙ ap (λ n. light_count key_cmp n config.presentation.nodefraction.billionths (report_samples l.profile f config column)) (counted.total_is f h)
        ∙ sym (light_counted l.profile f config column);
    candidates = λ f h.
        rows_are
        ∙ candidates_are l.profile (report_samples l.profile f config column) c.sums counted.fits (counted.sums_are f h) config.presentation.sort c.total config.presentation.nodefraction.billionths rows light ranked
        ∙ ap (λ n. length (heavy_listed key_cmp config.presentation.sort n config.presentation.nodefraction.billionths (report_samples l.profile f config column))) (counted.total_is f h)
        ∙ ap length (sym (candidates_listed l.profile f config column));
  }
