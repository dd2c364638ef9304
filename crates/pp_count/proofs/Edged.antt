-- The edges of a report, from the sums of pairs by their numbers.
use Rattle.std.proofs.Common.{◌≡◌, ◌≢◌, ℕ, zero, suc, ◌+◌, ◌*◌, ◌/◌, ◌%◌, ◌<◌, Bool, true, false, cond, not, ◌&&◌, ◌||◌, ◌==◌, pos, List, [], ◌∷◌, ◌++◌, length, get_or, map, All, Option, Some, None, refl, sym, ap, ◌∙◌, subst, arith, inl, inr, map-id}
use Rattle.std.specs.Prelude.{AllPairs}
use Rattle.std.specs.List.{filter, list_any, range_with_len}
use Rattle.std.specs.Option.{is_some}
use Rattle.std.specs.Ordering.{nat_cmp, eq_by_cmp, int_eq}
use Rattle.std.proofs.lemmas.Bool.{false≢true, eq-eqb, eqb-true, ne_eqb, cases_order, and_parts}
use Rattle.std.proofs.lemmas.List.{get_or-map, length-map}
use Rattle.std.proofs.lemmas.List.Elements.{All-filter, All-head, All-tail, filter-append, filter_passes}
use Rattle.std.proofs.lemmas.List.FromFn.{map-range_with_len_more}
use Rattle.std.proofs.lemmas.Nat.{div-mul-add, mod-mul-add, div-add-mod'}
use Rattle.std.proofs.Math.Nat.{mod-lt, div-lt_iff_lt-mul}
use Rattle.pp_base.proofs.Booleans.{same_bool}
use Rattle.pp_model.specs.declared.config.Config.{Config}
use Rattle.pp_model.specs.declared.loaded.Loaded.{Loaded}
use Rattle.pp_model.specs.Finders.{Finders}
use Rattle.pp_model.specs.FrameTexts.{Written}
use Rattle.pp_model.specs.Rules.{IsCompact}
use Rattle.pp_grain.specs.declared.key.Key.{Key}
use Rattle.pp_grain.specs.Keys.{key_cmp, key_written}
use Rattle.pp_tags.proofs.AlikeLemmas.{list_any_alike}
use Rattle.pp_count.specs.declared.part.KeySum.{KeySum}
use Rattle.pp_count.specs.declared.edge.Edge.{Edge}
use Rattle.pp_count.specs.declared.pairs.Pairing.{Pairing}
use Rattle.pp_count.specs.declared.recounting.Ends.{Ends}
use Rattle.pp_count.specs.declared.survey.Survey.{Survey}
use Rattle.pp_count.specs.Table.{written_key, key_numbered, no_key}
use Rattle.pp_count.specs.Sums.{Seen, weighed, renamed, occurs, cum}
use Rattle.pp_count.specs.Seeing.{HoldsFilters, seen_samples}
use Rattle.pp_count.specs.Parts.{sums_of, key_sum, HasBelow}
use Rattle.pp_count.specs.Edges.{is_kept_key, is_marked, pair_place, paired, edge_of_sum, AreOnce, ArePairPlaces}
use Rattle.pp_count.specs.EdgeSums.{edge_occurs, edge_sum, kept_numbers, is_kept_name, edges_between, AreEdgesOf, AreEdgesAbout, HasPairSums}
use Rattle.pp_count.specs.Rising.{AreRisingBetween}
use Rattle.pp_count.proofs.CallerLemmas.{weighed-renamed}
use Rattle.pp_count.proofs.Finals.{sums_below, has_root}
use Rattle.pp_count.proofs.Keyed.{apart}
use Rattle.pp_count.proofs.Paired.{occurs-paired, sum-paired, pairs_below, weighed-paired, none_from, none_to}
use Rattle.pp_count.proofs.Rising.{rising_none, rising_one, rising-filter}

-- a number is that of a pair where its parts are those of the pair
is_pair : (n a b k : ℕ) → b < n → ((k / n == a) && (k % n == b)) ≡ (k == a * n + b)
is_pair n a b k in_b = same_bool _ _
    (λ both.
    let parts = and_parts (k / n == a) (k % n == b) both in
    eq-eqb k (a * n + b) (sym (div-add-mod' k n) ∙ (λ i. eqb-true (k / n) a parts.0 i * n + eqb-true (k % n) b parts.1 i)))
    (λ same.
    let is : k ≡ a * n + b = eqb-true k (a * n + b) same in
    λ i. eq-eqb (k / n) a (ap (λ m. m / n) is ∙ div-mul-add a n b in_b) i && eq-eqb (k % n) b (ap (λ m. m % n) is ∙ mod-mul-add a n b in_b) i)

-- numbers that rise stand once each
pub once_rising : (low high : ℕ) (ns : List ℕ) → AreRisingBetween low high ns → AreOnce ns
once_rising low high ns is i j in_i in_j same = elim (cases_order i j) [
  | inl equal ↦ equal
  | inr (inl before) ↦ absurd (omega (arith, is.order i j 0 before in_j, same))
  | inr (inr after) ↦ absurd (omega (arith, is.order j i 0 after in_i, same))
]

range_rises : (low count : ℕ) → AreRisingBetween low (low + count) (range_with_len low count)
range_rises low zero = rising_none low (low + 0)
range_rises low (suc count) =
    rising_one low (low + suc count) low (range_with_len (low + 1) count) (omega arith) (omega arith)
    (subst (λ (n : ℕ). AreRisingBetween (low + 1) n (range_with_len (low + 1) count)) (omega arith) (range_rises (low + 1) count))

-- the numbers of the names that are kept rise
pub kept_rise : (keep : List Bool) (names : ℕ) → AreRisingBetween 0 names (kept_numbers keep names)
kept_rise keep names = rising-filter (is_kept_key keep) 0 names (range_with_len 0 names) (subst (λ (n : ℕ). AreRisingBetween 0 n (range_with_len 0 names)) (omega arith) (range_rises 0 names))

range_more : (i : ℕ) → range_with_len 0 (i + 1) ≡ range_with_len 0 i ++ i ∷ []
range_more i = sym (map-id (range_with_len 0 (i + 1))) ∙ map-range_with_len_more (λ k. k) 0 i i (omega arith) ∙ ap (λ ks. ks ++ i ∷ []) (map-id (range_with_len 0 i))

-- with one more name
pub kept_more : (keep : List Bool) (i : ℕ) (kept new : List ℕ) → kept ≡ kept_numbers keep i → new ≡ kept ++ cond (is_kept_key keep i) (i ∷ []) [] → new ≡ kept_numbers keep (i + 1)
kept_more keep i kept new so_far is =
    is ∙ ap (λ ks. ks ++ cond (is_kept_key keep i) (i ∷ []) []) so_far
    ∙ sym (ap (filter (is_kept_key keep)) (range_more i) ∙ filter-append (is_kept_key keep) (range_with_len 0 i) (i ∷ []))

-- the names that are kept have numbers
pub names_within : (survey : Survey) (keep : List Bool) → length keep ≡ length survey.counted.now.sums.names
    → All (λ n. n < length survey.counted.now.numbers) (kept_numbers keep (length keep))
names_within survey keep fits = λ i d here.
    omega (
      arith,
      (kept_rise keep (length keep)).below i d here,
      fits,
      ap length survey.counts.names,
      length-map survey.counted.now.numbers (key_numbered survey.counted.now.table.names),
    )

-- the numbers of names are as small as all are
pub keys_below : (numbers kept : List ℕ) (n : ℕ) → All (λ k. k < n) numbers → All (λ a. a < length numbers) kept → All (λ k. k < n) (map (λ a. get_or numbers a 0) kept)
keys_below numbers kept n below inside i d here =
    let number : ℕ → ℕ = λ a. get_or numbers a 0 in
    let in_kept : i < length kept = omega (arith, here, length-map kept number) in
    subst (λ (k : ℕ). k < n) (sym (get_or-map number kept i 0 d in_kept)) (below (get_or kept i 0) 0 (inside i 0 in_kept))

module _ (kept : List ℕ) (once : AreOnce kept) where
  abbrev n : ℕ
  n = length kept

  abbrev end_at : ℕ → ℕ
  end_at q = get_or kept q 0

  same_end : (x q : ℕ) → x < n → q < n → (end_at x == end_at q) ≡ (x == q)
  same_end x q in_x in_q = same_bool _ _
      (λ is. eq-eqb x q (once x q in_x in_q (eqb-true (end_at x) (end_at q) is)))
      (λ is. eq-eqb (end_at x) (end_at q) (ap end_at (eqb-true x q is)))

  -- the edges between two names that are kept are those of their pair's sums
  between_is : (a b : ℕ) → a < n → b < n → (es : List KeySum) → All (λ e. e.key < n * n) es
      → edges_between (end_at a) (end_at b) (map (edge_of_sum kept) es) ≡ map (edge_of_sum kept) (sums_of (a * n + b) es)
  between_is a b in_a in_b [] below = refl
  between_is a b in_a in_b (e ∷ es) below =
      let here : e.key < n * n = All-head (λ (x : KeySum). x.key < n * n) e es below in
      let some : 0 < n = has_root e.key n here in
      let rest = edges_between (end_at a) (end_at b) (map (edge_of_sum kept) es) in
      ap (λ w. cond w (edge_of_sum kept e ∷ rest) rest)
      ((λ i. same_end (e.key / n) a ((div-lt_iff_lt-mul some).1 here) in_a i && same_end (e.key % n) b (mod-lt e.key some) in_b i) ∙ is_pair n a b e.key in_b)
      ∙ elim (e.key == a * n + b) as (λ w. cond w (edge_of_sum kept e ∷ rest) rest ≡ map (edge_of_sum kept) (cond w (e ∷ sums_of (a * n + b) es) (sums_of (a * n + b) es))) [
        | true ↦ ap (λ r. edge_of_sum kept e ∷ r) (between_is a b in_a in_b es (All-tail (λ (x : KeySum). x.key < n * n) e es below))
        | false ↦ between_is a b in_a in_b es (All-tail (λ (x : KeySum). x.key < n * n) e es below)
      ]

  -- a name that isn't kept has none
  none_between : (a b : ℕ) → ((q : ℕ) → q < n → ((end_at q == a) ≡ false)) → (es : List KeySum) → All (λ e. e.key < n * n) es
      → edges_between a b (map (edge_of_sum kept) es) ≡ []
  none_between a b other [] below = refl
  none_between a b other (e ∷ es) below =
      let here : e.key < n * n = All-head (λ (x : KeySum). x.key < n * n) e es below in
      let rest = edges_between a b (map (edge_of_sum kept) es) in
      ap (λ w. cond (w && (end_at (e.key % n) == b)) (edge_of_sum kept e ∷ rest) rest) (other (e.key / n) ((div-lt_iff_lt-mul (has_root e.key n here)).1 here))
      ∙ none_between a b other es (All-tail (λ (x : KeySum). x.key < n * n) e es below)

  none_between_to : (a b : ℕ) → ((q : ℕ) → q < n → ((end_at q == b) ≡ false)) → (es : List KeySum) → All (λ e. e.key < n * n) es
      → edges_between a b (map (edge_of_sum kept) es) ≡ []
  none_between_to a b other [] below = refl
  none_between_to a b other (e ∷ es) below =
      let here : e.key < n * n = All-head (λ (x : KeySum). x.key < n * n) e es below in
      let rest = edges_between a b (map (edge_of_sum kept) es) in
      ap (λ w. cond ((end_at (e.key / n) == a) && w) (edge_of_sum kept e ∷ rest) rest) (other (e.key % n) (mod-lt e.key (has_root e.key n here)))
      ∙ ap (λ w. cond w (edge_of_sum kept e ∷ rest) rest) (and_false (end_at (e.key / n) == a))
      ∙ none_between_to a b other es (All-tail (λ (x : KeySum). x.key < n * n) e es below) where
        and_false : (w : Bool) → (w && false) ≡ false
        and_false true = refl
        and_false false = refl

one_or_none : (kept : List ℕ) (w : Bool) (x : KeySum) → map (edge_of_sum kept) (cond w (x ∷ []) []) ≡ cond w (edge_of_sum kept x ∷ []) []
one_or_none kept true x = refl
one_or_none kept false x = refl

-- the names' numbers are different where the names are
numbers_once : (names old : List Key) (numbers : List ℕ) → old ≡ map (key_numbered names) numbers → AllPairs (λ a b. a ≢ b) old → AreOnce numbers
numbers_once names old numbers named distinct i j in_i in_j same = elim (cases_order i j) [
  | inl equal ↦ equal
  | inr (inl before) ↦ absurd (distinct i j no_key before (inside j in_j) (at i in_i ∙ ap (key_numbered names) same ∙ sym (at j in_j)))
  | inr (inr after) ↦ absurd (distinct j i no_key after (inside i in_i) (at j in_j ∙ ap (key_numbered names) (sym same) ∙ sym (at i in_i)))
] where
  inside : (k : ℕ) → k < length numbers → k < length old
  inside k here = omega (arith, here, ap length named, length-map numbers (key_numbered names))

  at : (k : ℕ) → k < length numbers → get_or old k no_key ≡ key_numbered names (get_or numbers k 0)
  at k here = ap (λ xs. get_or xs k no_key) named ∙ get_or-map (key_numbered names) numbers k 0 no_key here

keys_once : (numbers kept : List ℕ) → AreOnce numbers → AreOnce kept → All (λ n. n < length numbers) kept → AreOnce (map (λ n. get_or numbers n 0) kept)
keys_once numbers kept apart_numbers apart_kept inside i j in_i in_j same =
    let number : ℕ → ℕ = λ n. get_or numbers n 0 in
    let here : i < length kept = omega (arith, in_i, length-map kept number) in
    let there : j < length kept = omega (arith, in_j, length-map kept number) in
    apart_kept i j here there
    (apart_numbers (get_or kept i 0) (get_or kept j 0) (inside i 0 here) (inside j 0 there)
    (sym (get_or-map number kept i 0 0 here) ∙ same ∙ get_or-map number kept j 0 0 there))

-- so are those of the names that are kept
pub kept_apart : (survey : Survey) (keep : List Bool) → AllPairs (λ a b. a ≢ b) survey.counted.now.sums.names → length keep ≡ length survey.counted.now.sums.names
    → AreOnce (map (λ n. get_or survey.counted.now.numbers n 0) (kept_numbers keep (length keep)))
kept_apart survey keep once fits =
    let counted = survey.counted.now in
    let kept : List ℕ = kept_numbers keep (length keep) in
    keys_once counted.numbers kept (numbers_once counted.table.names counted.sums.names counted.numbers survey.counts.names once)
    (once_rising 0 (length keep) kept (kept_rise keep (length keep))) (names_within survey keep fits)

-- What edges are made of: the names that are kept, and the sums of the pairs over their places.
pub record HasEdges (survey : Survey) (ends : Ends) (kept : List ℕ) (over : Pairing) (sums : List KeySum) : Type 0 where
  pub compact : IsCompact survey.l.now.profile
  pub once : AllPairs (λ a b. a ≢ b) survey.counted.now.sums.names
  pub fits : length ends.keep.now ≡ length survey.counted.now.sums.names
  pub kept_are : kept ≡ kept_numbers ends.keep.now (length ends.keep.now)
  pub places : ArePairPlaces (map (λ n. get_or survey.counted.now.numbers n 0) kept) over.place
  pub marks : over.marked ≡ map (is_marked ends.marked.now) kept
  pub sums_are : HasPairSums survey.l.now survey.v.now survey.config.now survey.column survey.counted.now.table.names over sums

module _ (survey : Survey) (ends : Ends) (kept : List ℕ) (over : Pairing) (sums : List KeySum) (h : HasEdges survey ends kept over sums) where
  abbrev l : Loaded
  l = survey.l.now

  abbrev config : Config
  config = survey.config.now

  abbrev column : Option ℕ
  column = survey.column

  -- the names of the table, and those of the report, with their numbers
  abbrev names : List Key
  names = survey.counted.now.table.names

  abbrev old : List Key
  old = survey.counted.now.sums.names

  abbrev numbers : List ℕ
  numbers = survey.counted.now.numbers

  abbrev keep : List Bool
  keep = ends.keep.now

  abbrev marked : List Bool
  marked = ends.marked.now

  named : old ≡ map (key_numbered names) numbers
  named = survey.counts.names

  abbrev name : ℕ → Written
  name = written_key l.profile names

  abbrev number : ℕ → ℕ
  number a = get_or numbers a 0

  abbrev keys_of : List ℕ
  keys_of = map number kept

  many : length numbers ≡ length old
  many = sym (ap length named ∙ length-map numbers (key_numbered names))

  size : length over.marked ≡ length kept
  size = ap length h.marks ∙ length-map kept (is_marked marked)

  fit : length over.marked ≡ length keys_of
  fit = size ∙ sym (length-map kept number)

  rising : AreRisingBetween 0 (length old) kept
  rising = subst (λ (ns : List ℕ). AreRisingBetween 0 (length old) ns) (sym h.kept_are) (subst (λ (n : ℕ). AreRisingBetween 0 n (kept_numbers keep (length keep))) h.fits (kept_rise keep (length keep)))

  kept_once : AreOnce kept
  kept_once = once_rising 0 (length old) kept rising

  in_table : (a : ℕ) → a < length old → number a < length names
  in_table a here = survey.counts.numbered a 0 (omega (arith, here, many))

  in_names : (q : ℕ) → q < length kept → get_or kept q 0 < length old
  in_names q here = rising.below q 0 here

  inside : All (λ k. k < length names) keys_of
  inside i d here =
      let in_kept : i < length kept = omega (arith, here, length-map kept number) in
      subst (λ (k : ℕ). k < length names) (sym (get_or-map number kept i 0 d in_kept)) (in_table (get_or kept i 0) (in_names i in_kept))

  same : (a : ℕ) → a < length old → name (number a) ≡ written_key l.profile old a
  same a in_a = ap (key_written l.profile) (sym (ap (λ ks. get_or ks a no_key) named ∙ get_or-map (key_numbered names) numbers a 0 no_key (omega (arith, in_a, many))))

  kept_same : (w : Written) → list_any (λ k. eq_by_cmp key_cmp w (name k)) keys_of ≡ is_kept_name l.profile old keep w
  kept_same w =
      any-map (λ k. eq_by_cmp key_cmp w (name k)) number kept
      ∙ list_any_alike (λ a. eq_by_cmp key_cmp w (name (number a))) (λ a. eq_by_cmp key_cmp w (written_key l.profile old a)) kept
      (λ i d here. ap (eq_by_cmp key_cmp w) (same (get_or kept i d) (rising.below i d here)))
      ∙ ap (list_any (λ a. eq_by_cmp key_cmp w (written_key l.profile old a))) (h.kept_are ∙ ap (kept_numbers keep) h.fits) where
        any-map : {X Y : Type 0} (p : Y → Bool) (g : X → Y) (xs : List X) → list_any p (map g xs) ≡ list_any (λ x. p (g x)) xs
        any-map p g [] = refl
        any-map p g (x ∷ xs) = ap (λ b. p (g x) || b) (any-map p g xs)

  abbrev S : List (Seen ℕ)
  S = weighed h.sums_are.seen

  S_below : All (HasBelow (length names)) S
  S_below = All-filter (λ (s : Seen ℕ). not (int_eq s.value (pos 0))) (HasBelow (length names)) h.sums_are.seen h.sums_are.below

  below : (k q : ℕ) → pair_place over k ≡ Some q → q < length over.marked
  below k q is = omega (arith, fit, (h.places.only k q is).0)

  -- the numbers of the pairs are below the square of the number of names that are kept
  pub pair_numbers : All (λ e. e.key < length kept * length kept) sums
  pair_numbers = subst (λ (n : ℕ). All (λ (e : KeySum). e.key < n * n) sums) size
      (sums_below (length over.marked * length over.marked) (weighed (map (paired over) h.sums_are.seen)) sums
      (All-filter (λ (s : Seen ℕ). not (int_eq s.value (pos 0))) (HasBelow (length over.marked * length over.marked)) (map (paired over) h.sums_are.seen) (pairs_below over below h.sums_are.seen)) h.sums_are.listed)

  -- both ends of each edge are names
  pub ends_within : (edges : List Edge) → edges ≡ map (edge_of_sum kept) sums → All (λ e. (e.from < length old) × (e.to < length old)) edges
  ends_within edges is = λ i d here.
      let n : ℕ = length kept in
      let none : KeySum = record { key = 0; flat = pos 0; cum = pos 0 } in
      let within : i < length sums = omega (arith, here, ap length is, length-map sums (edge_of_sum kept)) in
      let under : (get_or sums i none).key < n * n = pair_numbers i none within in
      let some : 0 < n = has_root _ n under in
      subst (λ (e : Edge). (e.from < length old) × (e.to < length old))
      (sym (ap (λ es. get_or es i d) is ∙ get_or-map (edge_of_sum kept) sums i none d within))
      (in_names ((get_or sums i none).key / n) ((div-lt_iff_lt-mul some).1 under), in_names ((get_or sums i none).key % n) (mod-lt (get_or sums i none).key some))

  -- a name whose key has a place is kept there
  kept_at : (a q : ℕ) → a < length old → pair_place over (number a) ≡ Some q → (q < length kept) × (get_or kept q 0 ≡ a)
  kept_at a q in_a is =
      let in_kept : q < length kept = omega (arith, (h.places.only (number a) q is).0, length-map kept number) in (
        in_kept,
        numbers_once names old numbers named h.once (get_or kept q 0) a (omega (arith, in_names q in_kept, many)) (omega (arith, in_a, many))
            (sym (get_or-map number kept q 0 0 in_kept) ∙ (h.places.only (number a) q is).1),
      )

  -- one without a place is none of them
  other_name : (a : ℕ) → a < length old → pair_place over (number a) ≡ None → (q : ℕ) → q < length kept → (get_or kept q 0 == a) ≡ false
  other_name a in_a none q here = ne_eqb (get_or kept q 0) a (λ is.
      none_some (sym none ∙ ap (pair_place over) (sym (get_or-map number kept q 0 0 here ∙ ap number is)) ∙ h.places.found q (omega (arith, here, length-map kept number)))) where
        none_some : None ≡ Some q → ⊥
        none_some e = false≢true (ap is_some e)

  mark_is : (q : ℕ) → q < length kept → is_marked over.marked q ≡ is_marked marked (get_or kept q 0)
  mark_is q here = ap (λ ms. get_or ms q false) h.marks ∙ get_or-map (is_marked marked) kept q 0 false here

  module _ (f : Finders) (holds : HoldsFilters l survey.v.now config.filtering f) (edges : List Edge) (is : edges ≡ map (edge_of_sum kept) sums) where
    abbrev T : List (Seen Written)
    T = weighed (seen_samples l.profile f config column l.profile.sample)

    T_is : map (renamed name) S ≡ T
    T_is = sym (weighed-renamed name h.sums_are.seen) ∙ ap weighed (h.sums_are.are f holds)

    abbrev kept_name : Written → Bool
    kept_name = is_kept_name l.profile old keep

    far : (a b : ℕ) → a < length names → b < length names → eq_by_cmp key_cmp (name a) (name b) ≡ eq_by_cmp nat_cmp a b
    far = apart l.profile h.compact names survey.counts.table.keys survey.counts.table.distinct

    -- the edge between two names, where there is one
    abbrev edge_if : Bool → ℕ → ℕ → List Edge
    edge_if w a b = cond w (record { from = a; to = b; value = edge_sum key_cmp kept_name T (written_key l.profile old a) (written_key l.profile old b) } ∷ []) []

    abbrev met : ℕ → ℕ → Bool
    met a b = edge_occurs key_cmp kept_name T (written_key l.profile old a) (written_key l.profile old b)

    met_is : (a b : ℕ) → a < length old → b < length old
        → edge_occurs key_cmp (λ w. list_any (λ k. eq_by_cmp key_cmp w (name k)) keys_of) (map (renamed name) S) (name (number a)) (name (number b)) ≡ met a b
    met_is a b in_a in_b = λ i. edge_occurs key_cmp (λ w. kept_same w i) (T_is i) (same a in_a i) (same b in_b i)

    sum_is : (a b : ℕ) → a < length old → b < length old
        → edge_sum key_cmp (λ w. list_any (λ k. eq_by_cmp key_cmp w (name k)) keys_of) (map (renamed name) S) (name (number a)) (name (number b))
        ≡ edge_sum key_cmp kept_name T (written_key l.profile old a) (written_key l.profile old b)
    sum_is a b in_a in_b = λ i. edge_sum key_cmp (λ w. kept_same w i) (T_is i) (same a in_a i) (same b in_b i)

    pub none_met_from : (a b : ℕ) → a < length old → b < length old → pair_place over (number a) ≡ None → met a b ≡ false
    none_met_from a b in_a in_b none =
        sym (met_is a b in_a in_b) ∙ none_from key_cmp name (length names) far keys_of inside over h.places fit (number a) (name (number b)) S (in_table a in_a) none S_below

    pub none_met_to : (a b : ℕ) → a < length old → b < length old → pair_place over (number b) ≡ None → met a b ≡ false
    none_met_to a b in_a in_b none =
        sym (met_is a b in_a in_b) ∙ none_to key_cmp name (length names) far keys_of inside over h.places fit (number b) (name (number a)) S (in_table b in_b) none S_below

    edge_none : (w x : Bool) (a b : ℕ) → x ≡ false → [] ≡ edge_if (w && x) a b
    edge_none true x a b none = ap (λ y. edge_if y a b) (sym none)
    edge_none false x a b none = refl

    -- both names are kept
    kept_between : (a b p q : ℕ) → a < length old → b < length old → pair_place over (number a) ≡ Some p → pair_place over (number b) ≡ Some q
        → edges_between a b edges ≡ edge_if ((is_marked marked a || is_marked marked b) && met a b) a b
    kept_between a b p q in_a in_b at_p at_q =
        let n : ℕ = length kept in
        let here = kept_at a p in_a at_p in
        let there = kept_at b q in_b at_q in
        let in_p : p < length over.marked = omega (arith, size, here.0) in
        let in_q : q < length over.marked = omega (arith, size, there.0) in
        let key_p : get_or keys_of p 0 ≡ number a = (h.places.only (number a) p at_p).1 in
        let key_q : get_or keys_of q 0 ≡ number b = (h.places.only (number b) q at_q).1 in
        let P : List (Seen ℕ) = weighed (map (paired over) h.sums_are.seen) in
        let x : ℕ = p * n + q in
        let kept_by : Written → Bool = λ w. list_any (λ k. eq_by_cmp key_cmp w (name k)) keys_of in
        let mark : (is_marked over.marked p || is_marked over.marked q) ≡ (is_marked marked a || is_marked marked b) =
        λ i. (mark_is p here.0 ∙ ap (is_marked marked) here.1) i || (mark_is q there.0 ∙ ap (is_marked marked) there.1) i in
        let occurs_is : occurs nat_cmp P x ≡ ((is_marked marked a || is_marked marked b) && met a b) =
        ap (λ r. occurs nat_cmp r x) (weighed-paired over h.sums_are.seen) ∙ ap (λ k. occurs nat_cmp (map (paired over) S) (p * k + q)) (sym size)
        ∙ occurs-paired key_cmp name (length names) far keys_of inside over h.places fit p q S in_p in_q S_below
        ∙ (λ i. mark i && ((λ j. edge_occurs key_cmp kept_by (map (renamed name) S) (name (key_p j)) (name (key_q j))) ∙ met_is a b in_a in_b) i) in
        ap (edges_between a b) is
        ∙ (λ i. edges_between (sym here.1 i) (sym there.1 i) (map (edge_of_sum kept) sums))
        ∙ between_is kept kept_once p q here.0 there.0 sums pair_numbers
        ∙ ap (map (edge_of_sum kept)) (h.sums_are.listed x) ∙ one_or_none kept (occurs nat_cmp P x) (key_sum P x)
        ∙ elim (is_marked marked a || is_marked marked b) as (λ w. (is_marked marked a || is_marked marked b) ≡ w → cond (occurs nat_cmp P x) (edge_of_sum kept (key_sum P x) ∷ []) [] ≡ edge_if (w && met a b) a b) [
          | true ↦ λ yes i. cond ((occurs_is ∙ ap (λ w. w && met a b) yes) i) (record {
            from = (ap (λ j. get_or kept j 0) (div-mul-add p n q there.0) ∙ here.1) i;
            to = (ap (λ j. get_or kept j 0) (mod-mul-add p n q there.0) ∙ there.1) i;
            value = (ap (λ r. cum nat_cmp r x) (weighed-paired over h.sums_are.seen) ∙ ap (λ k. cum nat_cmp (map (paired over) S) (p * k + q)) (sym size)
                ∙ sum-paired key_cmp name (length names) far keys_of inside over h.places fit p q S in_p in_q (mark ∙ yes) S_below
                ∙ (λ j. edge_sum key_cmp kept_by (map (renamed name) S) (name (key_p j)) (name (key_q j))) ∙ sum_is a b in_a in_b) i;
          } ∷ []) []
          | false ↦ λ no. ap (λ w. cond w (edge_of_sum kept (key_sum P x) ∷ []) []) (occurs_is ∙ ap (λ w. w && met a b) no)
        ] refl

    pub edges_are : AreEdgesAbout l.profile T old keep marked edges
    edges_are = record {
      within = ends_within edges is;
      each = λ a b in_a in_b.
          elim (pair_place over (number a)) as (λ o. pair_place over (number a) ≡ o → edges_between a b edges ≡ edge_if ((is_marked marked a || is_marked marked b) && met a b) a b) [
            | None ↦ λ none. ap (edges_between a b) is ∙ none_between kept kept_once a b (other_name a in_a none) sums pair_numbers
                ∙ edge_none (is_marked marked a || is_marked marked b) (met a b) a b (none_met_from a b in_a in_b none)
            | Some p ↦ λ at_p. elim (pair_place over (number b)) as (λ o. pair_place over (number b) ≡ o → edges_between a b edges ≡ edge_if ((is_marked marked a || is_marked marked b) && met a b) a b) [
              | None ↦ λ none. ap (edges_between a b) is ∙ none_between_to kept kept_once a b (other_name b in_b none) sums pair_numbers
                  ∙ edge_none (is_marked marked a || is_marked marked b) (met a b) a b (none_met_to a b in_a in_b none)
              | Some q ↦ λ at_q. kept_between a b p q in_a in_b at_p at_q
            ] refl
          ] refl;
    }

    -- Where each name that is kept is marked, the edges are all of them.
    pub all_edges : keep ≡ marked → AreEdgesOf l.profile T old keep edges
    all_edges same_marks = record {
      within = edges_are.within;
      each = λ a b in_a in_b.
          edges_are.each a b in_a in_b
          ∙ ap (λ w. edge_if w a b)
          (elim (pair_place over (number a)) as (λ o. pair_place over (number a) ≡ o → ((is_marked marked a || is_marked marked b) && met a b) ≡ met a b) [
            | None ↦ λ none. unmet (is_marked marked a || is_marked marked b) (met a b) (none_met_from a b in_a in_b none)
            | Some p ↦ λ at_p. ap (λ w. (w || is_marked marked b) && met a b) (mark_kept a p in_a at_p)
          ] refl);
    } where
      unmet : (w x : Bool) → x ≡ false → (w && x) ≡ x
      unmet true x none = refl
      unmet false x none = sym none

      mark_kept : (a p : ℕ) → a < length old → pair_place over (number a) ≡ Some p → is_marked marked a ≡ true
      mark_kept a p in_a at_p =
          let here = kept_at a p in_a at_p in
          sym (ap (λ ms. is_marked ms a) same_marks) ∙ ap (is_kept_key keep) (sym here.1)
          ∙ ap (λ ks. is_kept_key keep (get_or ks p 0)) h.kept_are
          ∙ filter_passes (is_kept_key keep) (range_with_len 0 (length keep)) p 0 (omega (arith, here.0, ap length h.kept_are))
