-- The ranked rows are the keys that a report shows.
use Rattle.std.proofs.Common.{◌≡◌, ◌≢◌, ℕ, eqb, ◌+◌, ◌<◌, Bool, true, false, cond, not, ◌&&◌, pos, nat_abs, List, [], ◌∷◌, length, map, take, get_or, All, refl, sym, ap, subst, ◌∙◌, arith}
use Rattle.std.specs.List.{filter, list_any, range_with_len, IsDistinct}
use Rattle.std.specs.List.Sorted.{IsPermutation, IsSorted, IsSortedBy}
use Rattle.std.specs.Ordering.{eq_by_cmp, is_lt, ordering_then}
use Rattle.std.specs.declared.cmp.Ordering.{Ordering}
use Rattle.std.specs.declared.cmp.Ordering.TheVariants.{Less, Equal, Greater}
use Rattle.std.proofs.lemmas.Cmp.{eq_by_cmp_equiv}
use Rattle.std.proofs.lemmas.List.{length-map, get_or-map, take-map}
use Rattle.std.proofs.lemmas.List.Elements.{All-nil, All-cons, All-head, All-tail, All-get_or, All-from_get_or, All-take}
use Rattle.std.proofs.lemmas.List.FromFn.{fill_by_all, length-range_with_len, get_or-range_with_len}
use Rattle.std.proofs.lemmas.List.Kept.{AllPairs-filter}
use Rattle.std.proofs.lemmas.List.Sorted.{IsPermutation-map, list_any-IsPermutation}
use Rattle.std.proofs.lemmas.Map.Keys.{IsDistinct-IsPermutation}
use Rattle.std.proofs.lemmas.Map.Made.{IsDistinct-from_AllPairs, length-from_keys}
use Rattle.std.proofs.lemmas.Map.Views.{any-filter_same}
use Rattle.std.proofs.lemmas.Simd.{map-map}
use Rattle.pp_model.specs.declared.presentation.Sort.{Sort}
use Rattle.pp_model.specs.declared.presentation.Sort.TheVariants as sorts
use Rattle.pp_model.specs.declared.profile.Profile.{Profile}
use Rattle.pp_model.specs.FrameTexts.{Written}
use Rattle.pp_grain.specs.Keys.{key_cmp, key_written}
use Rattle.pp_grain.proofs.CallerLemmas.{key_cmp_total}
use Rattle.pp_count.specs.declared.sums.Sums.{Sums}
use Rattle.pp_count.specs.Sums.{Seen, all_keys, cum, flat}
use Rattle.pp_count.specs.Counts.{AreSumsOf, written_names}
use Rattle.pp_count.specs.Counted.{FitSums}
use Rattle.pp_count.specs.Table.{no_key, written_key}
use Rattle.pp_count.specs.Ranks.{is_heavy}
use Rattle.pp_count.proofs.Renaming.{all_keys_occur}
use Rattle.pp_count.proofs.EachOnce.{each_once_is}
use Rattle.pp_count.proofs.Ties.{tied, key_decides}
use Rattle.pp_graph.specs.declared.heavy.RankedRow.{RankedRow}
use Rattle.pp_graph.specs.Sampled.{heavy_listed, is_heavy_cum, light_count, report_order}
use Rattle.pp_graph.specs.Trim.{shown_keys}
use Rattle.pp_graph.specs.Ranks.{row_cmp, row_key, larger_first, sum_of_name, major, minor, IsRankedRow, is_heavy_number, heavy_numbers, light_numbers, AreRanked}
use Rattle.pp_graph.proofs.Ordering.{report_total, report_same}

-- a filter of what stands for items is what stands for a filter of them
filter-map : {X Y : Type 0} (f : X → Y) (p : X → Bool) (q : Y → Bool) (xs : List X) → All (λ x. p x ≡ q (f x)) xs → map f (filter p xs) ≡ filter q (map f xs)
filter-map f p q [] all = refl
filter-map f p q (x ∷ xs) all =
    go (p x) (q (f x)) (All-head (λ y. p y ≡ q (f y)) x xs all) (filter-map f p q xs (All-tail (λ y. p y ≡ q (f y)) x xs all)) where
      go : (a b : Bool) → a ≡ b → map f (filter p xs) ≡ filter q (map f xs) → map f (cond a (x ∷ filter p xs) (filter p xs)) ≡ cond b (f x ∷ filter q (map f xs)) (filter q (map f xs))
      go a b same rest = elim a as (λ c. map f (cond c (x ∷ filter p xs) (filter p xs)) ≡ cond c (f x ∷ filter q (map f xs)) (filter q (map f xs))) [
        | true ↦ ap (λ r. f x ∷ r) rest
        | false ↦ rest
      ] ∙ ap (λ c. cond c (f x ∷ filter q (map f xs)) (filter q (map f xs))) same

range_below : (n : ℕ) → All (λ m. m < n) (range_with_len 0 n)
range_below n = All-from_get_or (λ m. m < n) (range_with_len 0 n) 0 (λ i h. omega (arith, get_or-range_with_len 0 n i 0 (omega (arith, length-range_with_len 0 n)), length-range_with_len 0 n))

pub All-with : {X : Type 0} {P Q : X → Type 0} (f : (x : X) → P x → Q x) (xs : List X) → All P xs → All Q xs
All-with f [] all = All-nil _
All-with {P} {Q} f (x ∷ xs) all = All-cons Q x xs (f x (All-head P x xs all)) (All-with f xs (All-tail P x xs all))

pub All-map : {A B : Type 0} (P : B → Type 0) (g : A → B) (xs : List A) → All (λ x. P (g x)) xs → All P (map g xs)
All-map P g [] all = All-nil P
All-map P g (x ∷ xs) all = All-cons P (g x) (map g xs) (All-head (λ y. P (g y)) x xs all) (All-map P g xs (All-tail (λ y. P (g y)) x xs all))

All-unmap : {A B : Type 0} (P : B → Type 0) (g : A → B) (xs : List A) → All P (map g xs) → All (λ x. P (g x)) xs
All-unmap P g [] all = All-nil (λ x. P (g x))
All-unmap P g (x ∷ xs) all = All-cons (λ y. P (g y)) x xs (All-head P (g x) (map g xs) all) (All-unmap P g xs (All-tail P (g x) (map g xs) all))

map-same : {A B : Type 0} (f g : A → B) (xs : List A) → All (λ x. f x ≡ g x) xs → map f xs ≡ map g xs
map-same f g [] all = refl
map-same f g (x ∷ xs) all = λ i. All-head (λ y. f y ≡ g y) x xs all i ∷ map-same f g xs (All-tail (λ y. f y ≡ g y) x xs all) i

pub shown_all : {A : Type 0} (P : A → Type 0) (limit : ℕ) (xs : List A) → All P xs → All P (shown_keys limit xs)
shown_all P limit xs all = elim (eqb limit 0) as (λ b. All P (cond b xs (take limit xs))) [ true ↦ all | false ↦ All-take P limit xs all ]

then_assoc : (a b c : Ordering) → ordering_then a (ordering_then b c) ≡ ordering_then (ordering_then a b) c
then_assoc Less b c = refl
then_assoc Equal b c = refl
then_assoc Greater b c = refl

module _ (p : Profile) (samples : List (Seen Written)) (sums : Sums) (fits : FitSums sums) (are : AreSumsOf p samples sums) where
  -- what a number of a name stands for
  abbrev key_at : ℕ → Written
  key_at n = written_key p sums.names n

  abbrev names : List Written
  names = written_names p sums

  names-range : map key_at (range_with_len 0 (length sums.names)) ≡ names
  names-range = sym (fill_by_all key_at names (length sums.names) (key_written p no_key) (length-map sums.names (key_written p))
      (λ k within. get_or-map (key_written p) sums.names k no_key (key_written p no_key) within))

  pub flat_at : (n : ℕ) → n < length sums.names → sum_of_name sums.flat n ≡ flat key_cmp samples (key_at n)
  flat_at n within =
      ap (λ xs. get_or xs n (pos 0)) are.flat
      ∙ get_or-map (flat key_cmp samples) names n (key_written p no_key) (pos 0) (omega (arith, within, length-map sums.names (key_written p)))
      ∙ ap (flat key_cmp samples) (get_or-map (key_written p) sums.names n no_key (key_written p no_key) within)

  pub cum_at : (n : ℕ) → n < length sums.names → sum_of_name sums.cum n ≡ cum key_cmp samples (key_at n)
  cum_at n within =
      ap (λ xs. get_or xs n (pos 0)) are.cum
      ∙ get_or-map (cum key_cmp samples) names n (key_written p no_key) (pos 0) (omega (arith, within, length-map sums.names (key_written p)))
      ∙ ap (cum key_cmp samples) (get_or-map (key_written p) sums.names n no_key (key_written p no_key) within)

  distinct : IsDistinct (eq_by_cmp key_cmp) names
  distinct = IsDistinct-from_AllPairs key_decides names are.once

  -- a test of the names that says the same of all keys that tie
  module _ (total billionths : ℕ) where
    heavy_same : (n : ℕ) → n < length sums.names → is_heavy_number total billionths sums n ≡ is_heavy_cum key_cmp total billionths samples (key_at n)
    heavy_same n within = ap (is_heavy total billionths) (cum_at n within)

    heavy_names : map key_at (heavy_numbers total billionths sums (length sums.names)) ≡ filter (is_heavy_cum key_cmp total billionths samples) names
    heavy_names =
        filter-map key_at (is_heavy_number total billionths sums) (is_heavy_cum key_cmp total billionths samples) (range_with_len 0 (length sums.names))
        (All-with heavy_same (range_with_len 0 (length sums.names)) (range_below (length sums.names)))
        ∙ ap (filter (is_heavy_cum key_cmp total billionths samples)) names-range

    light_names : map key_at (light_numbers total billionths sums (length sums.names)) ≡ filter (λ k. not (is_heavy_cum key_cmp total billionths samples k)) names
    light_names =
        filter-map key_at (λ n. not (is_heavy_number total billionths sums n)) (λ k. not (is_heavy_cum key_cmp total billionths samples k)) (range_with_len 0 (length sums.names))
        (All-with (λ n within. ap not (heavy_same n within)) (range_with_len 0 (length sums.names)) (range_below (length sums.names)))
        ∙ ap (filter (λ k. not (is_heavy_cum key_cmp total billionths samples k))) names-range

  members : (test : Written → Bool) (k : Written) → list_any (eq_by_cmp key_cmp k) (filter test (all_keys samples)) ≡ list_any (eq_by_cmp key_cmp k) (filter test names)
  members test k =
      any-filter_same (eq_by_cmp key_cmp k) test (test k) (λ q e. ap test (sym (tied k q e))) (all_keys samples)
      ∙ ap (λ b. test k && b) (all_keys_occur key_cmp samples k ∙ sym (are.occur k))
      ∙ sym (any-filter_same (eq_by_cmp key_cmp k) test (test k) (λ q e. ap test (sym (tied k q e))) names)

  distinct_names : (test : Written → Bool) → IsDistinct (eq_by_cmp key_cmp) (filter test names)
  distinct_names test = IsDistinct-from_AllPairs key_decides (filter test names) (AllPairs-filter (λ a b. a ≢ b) test names are.once)

  pub light_is : (total billionths : ℕ) → length (light_numbers total billionths sums (length sums.names)) ≡ light_count key_cmp total billionths samples
  light_is total billionths =
      sym (length-map (light_numbers total billionths sums (length sums.names)) key_at) ∙ ap length (light_names total billionths)
      ∙ length-from_keys (eq_by_cmp_equiv key_cmp_total) (filter (λ k. not (is_heavy_cum key_cmp total billionths samples k)) names)
      (filter (λ k. not (is_heavy_cum key_cmp total billionths samples k)) (all_keys samples))
      (distinct_names (λ k. not (is_heavy_cum key_cmp total billionths samples k))) (λ q. sym (members (λ k. not (is_heavy_cum key_cmp total billionths samples k)) q))

  -- rows are ordered as their keys are
  rows_order : (sort : Sort) (a b : RankedRow) → IsRankedRow p sort sums a → IsRankedRow p sort sums b → report_order key_cmp sort samples (row_key a) (row_key b) ≡ row_cmp a b
  rows_order sorts.Flat a b x y =
      then_assoc (larger_first (nat_abs (flat key_cmp samples (row_key a))) (nat_abs (flat key_cmp samples (row_key b)))) (larger_first (nat_abs (cum key_cmp samples (row_key a))) (nat_abs (cum key_cmp samples (row_key b)))) (key_cmp (row_key a) (row_key b))
      ∙ (λ i. ordering_then (ordering_then (larger_first (of_flat a x i) (of_flat b y i)) (larger_first (of_cum a x i) (of_cum b y i))) (key_cmp (row_key a) (row_key b))) where
        of_flat : (r : RankedRow) → IsRankedRow p sorts.Flat sums r → nat_abs (flat key_cmp samples (row_key r)) ≡ r.major
        of_flat r w = ap (λ k. nat_abs (flat key_cmp samples k)) w.key ∙ ap nat_abs (sym (flat_at r.number w.below)) ∙ sym w.major

        of_cum : (r : RankedRow) → IsRankedRow p sorts.Flat sums r → nat_abs (cum key_cmp samples (row_key r)) ≡ r.minor
        of_cum r w = ap (λ k. nat_abs (cum key_cmp samples k)) w.key ∙ ap nat_abs (sym (cum_at r.number w.below)) ∙ sym w.minor
  rows_order sorts.Cum a b x y =
      then_assoc (larger_first (nat_abs (cum key_cmp samples (row_key a))) (nat_abs (cum key_cmp samples (row_key b)))) (larger_first (nat_abs (flat key_cmp samples (row_key a))) (nat_abs (flat key_cmp samples (row_key b)))) (key_cmp (row_key a) (row_key b))
      ∙ (λ i. ordering_then (ordering_then (larger_first (of_cum a x i) (of_cum b y i)) (larger_first (of_flat a x i) (of_flat b y i))) (key_cmp (row_key a) (row_key b))) where
        of_flat : (r : RankedRow) → IsRankedRow p sorts.Cum sums r → nat_abs (flat key_cmp samples (row_key r)) ≡ r.minor
        of_flat r w = ap (λ k. nat_abs (flat key_cmp samples k)) w.key ∙ ap nat_abs (sym (flat_at r.number w.below)) ∙ sym w.minor

        of_cum : (r : RankedRow) → IsRankedRow p sorts.Cum sums r → nat_abs (cum key_cmp samples (row_key r)) ≡ r.major
        of_cum r w = ap (λ k. nat_abs (cum key_cmp samples k)) w.key ∙ ap nat_abs (sym (cum_at r.number w.below)) ∙ sym w.major

  module _ (sort : Sort) (total billionths : ℕ) (rows : List RankedRow) (light : ℕ) (ranked : AreRanked p sort sums total billionths rows light) where
    get_or-map_within : {A B : Type 0} (g : A → B) (xs : List A) (j : ℕ) (d : B) (e : A) → j < length xs → get_or (map g xs) j d ≡ g (get_or xs j e)
    get_or-map_within g xs j d e h = get_or-map g xs j e d h

    keys_sorted : IsSorted (report_order key_cmp sort samples) (map row_key rows)
    keys_sorted = go rows ranked.sorted ranked.rows_are where
      go : (rs : List RankedRow) → IsSortedBy (λ a b. is_lt (row_cmp a b)) rs → All (IsRankedRow p sort sums) rs → IsSorted (report_order key_cmp sort samples) (map row_key rs)
      go [] sorted of = λ k d low high. absurd (omega (arith, high))
      go (r ∷ rs) sorted of = λ k d low high.
          let within : k + 1 < length (r ∷ rs) = omega (arith, high, length-map (r ∷ rs) row_key) in
          let at : (j : ℕ) → j < length (r ∷ rs) → get_or (map row_key (r ∷ rs)) j d ≡ row_key (get_or (r ∷ rs) j r) = λ j h. get_or-map row_key (r ∷ rs) j r d h in
          let is : (j : ℕ) → j < length (r ∷ rs) → IsRankedRow p sort sums (get_or (r ∷ rs) j r) = λ j h. All-get_or (IsRankedRow p sort sums) (r ∷ rs) j r h of in
          (λ i. is_lt (report_order key_cmp sort samples (at (k + 1) within i) (at k (omega (arith, within)) i)))
          ∙ ap is_lt (rows_order sort (get_or (r ∷ rs) (k + 1) r) (get_or (r ∷ rs) k r) (is (k + 1) within) (is k (omega (arith, within))))
          ∙ sorted k r low within

    -- the keys of the rows are those of their numbers
    keys_of_rows : (rs : List RankedRow) → All (IsRankedRow p sort sums) rs → map row_key rs ≡ map key_at (map (λ (r : RankedRow). r.number) rs)
    keys_of_rows rs of = map-same row_key (λ (r : RankedRow). key_at r.number) rs (All-with {P = IsRankedRow p sort sums} (λ r w. w.key) rs of) ∙ sym (map-map key_at (λ (r : RankedRow). r.number) rs)

    permuted : IsPermutation (filter (is_heavy_cum key_cmp total billionths samples) names) (map row_key rows)
    permuted =
        subst (λ xs. IsPermutation xs (map row_key rows)) (heavy_names total billionths)
        (subst (λ ys. IsPermutation (map key_at (heavy_numbers total billionths sums (length sums.names))) ys) (sym (keys_of_rows rows ranked.rows_are))
        (IsPermutation-map key_at (heavy_numbers total billionths sums (length sums.names)) (map (λ (r : RankedRow). r.number) rows) ranked.numbers))

    -- the heavy keys in report order are those of the rows
    pub heavy_are : heavy_listed key_cmp sort total billionths samples ≡ map row_key rows
    heavy_are =
        each_once_is (report_total samples sort) (report_same samples sort) (eq_by_cmp key_cmp) key_decides
        (filter (is_heavy_cum key_cmp total billionths samples) (all_keys samples)) (map row_key rows) keys_sorted
        (IsDistinct-IsPermutation (eq_by_cmp key_cmp) (eq_by_cmp_equiv key_cmp_total).symm (filter (is_heavy_cum key_cmp total billionths samples) names) (map row_key rows) permuted
        (distinct_names (is_heavy_cum key_cmp total billionths samples)))
        (λ k. members (is_heavy_cum key_cmp total billionths samples) k ∙ list_any-IsPermutation (eq_by_cmp key_cmp k) (filter (is_heavy_cum key_cmp total billionths samples) names) (map row_key rows) permuted)

    shown-map : {A B : Type 0} (g : A → B) (limit : ℕ) (xs : List A) → shown_keys limit (map g xs) ≡ map g (shown_keys limit xs)
    shown-map g limit xs = elim (eqb limit 0) as (λ b. cond b (map g xs) (take limit (map g xs)) ≡ map g (cond b xs (take limit xs))) [
      | true ↦ refl
      | false ↦ take-map g limit xs
    ]

    -- the rows that are shown are those of the keys that are
    pub order_is : (limit : ℕ) → map key_at (map (λ (r : RankedRow). r.number) (shown_keys limit rows)) ≡ shown_keys limit (heavy_listed key_cmp sort total billionths samples)
    order_is limit =
        sym (keys_of_rows (shown_keys limit rows) (shown_all (IsRankedRow p sort sums) limit rows ranked.rows_are))
        ∙ sym (shown-map row_key limit rows) ∙ ap (shown_keys limit) (sym heavy_are)

    pub candidates_are : length rows ≡ length (heavy_listed key_cmp sort total billionths samples)
    candidates_are = sym (length-map rows row_key) ∙ ap length (sym heavy_are)

    -- their flats
    pub flats_are : (limit : ℕ) → map (sum_of_name sums.flat) (map (λ (r : RankedRow). r.number) (shown_keys limit rows)) ≡ map (flat key_cmp samples) (shown_keys limit (heavy_listed key_cmp sort total billionths samples))
    flats_are limit =
        map-map (sum_of_name sums.flat) (λ (r : RankedRow). r.number) (shown_keys limit rows)
        ∙ map-same (λ (r : RankedRow). sum_of_name sums.flat r.number) (λ (r : RankedRow). flat key_cmp samples (key_at r.number)) (shown_keys limit rows)
        (All-with {P = IsRankedRow p sort sums} (λ r w. flat_at r.number w.below) (shown_keys limit rows) (shown_all (IsRankedRow p sort sums) limit rows ranked.rows_are))
        ∙ sym (map-map (flat key_cmp samples) (λ (r : RankedRow). key_at r.number) (shown_keys limit rows))
        ∙ ap (map (flat key_cmp samples)) (sym (map-map key_at (λ (r : RankedRow). r.number) (shown_keys limit rows)) ∙ order_is limit)
