-- The edges that are left between the keys that a report shows, and how many were cut.
use Rattle.std.proofs.Common.{◌≡◌, ◌≢◌, ℕ, zero, suc, eqb, ◌+◌, ◌<◌, Bool, true, false, cond, not, ◌&&◌, ◌||◌, List, [], ◌∷◌, length, map, get_or, All, inl, inr, refl, sym, ap, subst, ◌∙◌, arith}
use Rattle.std.specs.List.{filter, list_any, sum_by, AllPairs}
use Rattle.std.specs.Ordering.{nat_cmp, eq_by_cmp}
use Rattle.std.specs.Cmp.{unsigned_tied}
use Rattle.std.proofs.lemmas.Bool.{cases_eq, cases_order, eq-eqb, false≢true, and_parts}
use Rattle.std.proofs.lemmas.List.{length-map, get_or-map}
use Rattle.std.proofs.lemmas.List.Elements.{All-nil, All-cons, All-head, All-tail, All-filter, All-from_get_or, All-get_or, filter_passes, filter_agree}
use Rattle.std.proofs.lemmas.List.Sums.{sum_by-cons}
use Rattle.std.proofs.Math.Bool.{and_comm}
use Rattle.pp_base.proofs.Booleans.{either}
use Rattle.pp_base.proofs.Sums.{same_sums, sum_of_two, sum_of_none}
use Rattle.pp_base.proofs.Lists.{filter-both}
use Rattle.pp_model.specs.declared.profile.Profile.{Profile}
use Rattle.pp_model.specs.FrameTexts.{Written}
use Rattle.pp_grain.specs.declared.key.Key.{Key}
use Rattle.pp_grain.specs.Keys.{key_cmp, key_written}
use Rattle.pp_count.specs.declared.edge.Edge.{Edge}
use Rattle.pp_count.specs.Sums.{Seen, has}
use Rattle.pp_count.specs.EdgeSums.{stands_over, has_pair, has_edge, edge_occurs, edge_sum, kept_numbers, is_kept_name, edges_between, AreEdgesOf}
use Rattle.pp_count.specs.Table.{no_key, written_key}
use Rattle.pp_count.proofs.Renaming.{same_found, list_any-renamed}
use Rattle.pp_count.proofs.Ties.{tied}
use Rattle.pp_graph.specs.Lists.{once_if}
use Rattle.pp_graph.specs.Sampled.{has_heavy_edge, has_light_edge, light_edge_count}
use Rattle.pp_graph.specs.Cuts.{kept_flags, is_heavy_edge, is_light_edge}
use Rattle.pp_graph.proofs.Chaining.{eqb-not}
use Rattle.pp_graph.proofs.Flags.{kept_are, among}
use Rattle.pp_graph.proofs.Shown.{All-with}

filter-swap : {X : Type 0} (p q : X → Bool) (xs : List X) → filter p (filter q xs) ≡ filter q (filter p xs)
filter-swap p q xs = filter-both p q xs ∙ filter_agree (λ x. q x && p x) (λ x. p x && q x) (λ x. and_comm (q x) (p x)) xs ∙ sym (filter-both q p xs)

length-one : (o : Bool) (x : Edge) → length (cond o (x ∷ []) []) ≡ once_if o
length-one true x = refl
length-one false x = refl

sum-map : {A B : Type 0} (g : B → ℕ) (f : A → B) (xs : List A) → sum_by g (map f xs) ≡ sum_by (λ x. g (f x)) xs
sum-map g f [] = refl
sum-map g f (x ∷ xs) = omega (arith, sum_by-cons g (f x) (map f xs), sum_by-cons (λ y. g (f y)) x xs, sum-map g f xs)

length-filter_map : {A B : Type 0} (p : B → Bool) (f : A → B) (xs : List A) → length (filter p (map f xs)) ≡ sum_by (λ x. once_if (p (f x))) xs
length-filter_map p f [] = refl
length-filter_map p f (x ∷ xs) = elim (p (f x)) as (λ b. length (cond b (f x ∷ filter p (map f xs)) (filter p (map f xs))) ≡ once_if b + sum_by (λ y. once_if (p (f y))) xs) [
  | true ↦ omega (arith, length-filter_map p f xs)
  | false ↦ omega (arith, length-filter_map p f xs)
] ∙ sym (sum_by-cons (λ y. once_if (p (f y))) x xs)

-- how often a number stands among numbers of which none stands twice
none_counted : (a : ℕ) (order : List ℕ) → among a order ≡ false → sum_by (λ n. once_if (eqb a n)) order ≡ 0
none_counted a [] none = refl
none_counted a (x ∷ order) none =
    elim (cases_eq a x) [
      | inl is ↦ absurd (false≢true (sym none ∙ ap (λ b. b || among a order) (unsigned_tied a x ∙ eq-eqb a x is)))
      | inr apart ↦ omega (
        arith,
        sum_by-cons (λ n. once_if (eqb a n)) x order,
        ap once_if (eqb-not a x apart),
        none_counted a order (sym (ap (λ b. b || among a order) (unsigned_tied a x ∙ eqb-not a x apart)) ∙ none),
      )
    ]

tail_apart : (x : ℕ) (order : List ℕ) → AllPairs (λ a b. a ≢ b) (x ∷ order) → AllPairs (λ a b. a ≢ b) order
tail_apart x order apart i j d below within = apart (suc i) (suc j) d (omega (arith, below)) (omega (arith, within))

head_apart : (x : ℕ) (order : List ℕ) → AllPairs (λ a b. a ≢ b) (x ∷ order) → among x order ≡ false
head_apart x order apart = go order (All-from_get_or (λ y. x ≢ y) order 0 (λ i h. apart zero (suc i) 0 (omega arith) (omega (arith, h)))) where
  go : (ys : List ℕ) → All (λ y. x ≢ y) ys → among x ys ≡ false
  go [] all = refl
  go (y ∷ ys) all = ap (λ b. b || among x ys) (unsigned_tied x y ∙ eqb-not x y (All-head (λ z. x ≢ z) y ys all)) ∙ go ys (All-tail (λ z. x ≢ z) y ys all)

once_counted : (a : ℕ) (order : List ℕ) → AllPairs (λ x y. x ≢ y) order → among a order ≡ true → sum_by (λ n. once_if (eqb a n)) order ≡ 1
once_counted a [] apart found = absurd (false≢true found)
once_counted a (x ∷ order) apart found = elim (cases_eq a x) [
  | inl is ↦ omega (
    arith,
    sum_by-cons (λ n. once_if (eqb a n)) x order,
    ap once_if (eq-eqb a x is),
    none_counted a order (ap (λ k. among k order) is ∙ head_apart x order apart),
  )
  | inr other ↦ omega (
    arith,
    sum_by-cons (λ n. once_if (eqb a n)) x order,
    ap once_if (eqb-not a x other),
    once_counted a order (tail_apart x order apart) (sym (ap (λ b. b || among a order) (unsigned_tied a x ∙ eqb-not a x other)) ∙ found),
  )
]

-- items are as many as those of each number together, where each has one number of these
split_count : {X : Type 0} (key : X → ℕ) (order : List ℕ) (xs : List X) → AllPairs (λ x y. x ≢ y) order → All (λ x. among (key x) order ≡ true) xs
    → sum_by (λ n. length (filter (λ x. eqb (key x) n) xs)) order ≡ length xs
split_count key order [] apart all = sum_of_none order
split_count key order (x ∷ xs) apart all =
    same_sums (λ n. length (filter (λ y. eqb (key y) n) (x ∷ xs))) (λ n. once_if (eqb (key x) n) + length (filter (λ y. eqb (key y) n) xs)) order (every one order)
    ∙ sum_of_two (λ n. once_if (eqb (key x) n)) (λ n. length (filter (λ y. eqb (key y) n) xs)) order
    ∙ omega (arith, once_counted (key x) order apart (All-head (λ y. among (key y) order ≡ true) x xs all), split_count key order xs apart (All-tail (λ y. among (key y) order ≡ true) x xs all)) where
      one : (n : ℕ) → length (filter (λ y. eqb (key y) n) (x ∷ xs)) ≡ once_if (eqb (key x) n) + length (filter (λ y. eqb (key y) n) xs)
      one n = elim (eqb (key x) n) as (λ b. length (cond b (x ∷ filter (λ y. eqb (key y) n) xs) (filter (λ y. eqb (key y) n) xs)) ≡ once_if b + length (filter (λ y. eqb (key y) n) xs)) [
        | true ↦ omega arith
        | false ↦ omega arith
      ]

      every : {P : ℕ → Type 0} → ((n : ℕ) → P n) → (ns : List ℕ) → All P ns
      every {P} h [] = All-nil P
      every {P} h (n ∷ ns) = All-cons P n ns (h n) (every h ns)

-- one of the items passes
filter_some : {X : Type 0} (test : X → Bool) (xs : List X) (i : ℕ) (d : X) → i < length xs → test (get_or xs i d) ≡ true → 0 < length (filter test xs)
filter_some test [] i d within passes = absurd (omega (arith, within))
filter_some test (x ∷ xs) zero d within passes = omega (arith, ap (λ b. length (cond b (x ∷ filter test xs) (filter test xs))) passes)
filter_some test (x ∷ xs) (suc i) d within passes =
    elim (test x) as (λ b. 0 < length (cond b (x ∷ filter test xs) (filter test xs))) [
      | true ↦ omega arith
      | false ↦ filter_some test xs i d (omega (arith, within)) passes
    ]

-- a pair that occurs over the keys that are kept has both its keys kept
module _ (kept : Written → Bool) where
  over_kept : (a b under : Written) (keys : List Written) → kept under ≡ true → All (λ k. kept k ≡ true) keys → stands_over key_cmp a b under keys ≡ true → (kept a ≡ true) × (kept b ≡ true)
  over_kept a b under [] is all found = absurd (false≢true found)
  over_kept a b under (k ∷ keys) is all found =
      either (eq_by_cmp key_cmp a k && eq_by_cmp key_cmp b under) (stands_over key_cmp a b k keys) found
      (λ here. let two = and_parts (eq_by_cmp key_cmp a k) (eq_by_cmp key_cmp b under) here in
      (ap kept (tied a k two.0) ∙ All-head (λ q. kept q ≡ true) k keys all, ap kept (tied b under two.1) ∙ is))
      (λ later. over_kept a b k keys (All-head (λ q. kept q ≡ true) k keys all) (All-tail (λ q. kept q ≡ true) k keys all) later)

  pair_kept : (a b : Written) (keys : List Written) → All (λ k. kept k ≡ true) keys → has_pair key_cmp a b keys ≡ true → (kept a ≡ true) × (kept b ≡ true)
  pair_kept a b [] all found = absurd (false≢true found)
  pair_kept a b (k ∷ keys) all found = over_kept a b k keys (All-head (λ q. kept q ≡ true) k keys all) (All-tail (λ q. kept q ≡ true) k keys all) found

  pub occurs_kept : (a b : Written) (samples : List (Seen Written)) → edge_occurs key_cmp kept samples a b ≡ true → (kept a ≡ true) × (kept b ≡ true)
  occurs_kept a b [] found = absurd (false≢true found)
  occurs_kept a b (s ∷ samples) found =
      either (has_edge key_cmp kept a b s.keys) (edge_occurs key_cmp kept samples a b) found
      (λ here. pair_kept a b (filter kept s.keys) (filter_passes kept s.keys) (and_parts (not (eq_by_cmp key_cmp a b)) (has_pair key_cmp a b (filter kept s.keys)) here).1)
      (λ later. occurs_kept a b samples later)

module _ (p : Profile) (samples : List (Seen Written)) (names : List Key) (distinct : AllPairs (λ a b. a ≢ b) (map (key_written p) names))
    (order : List ℕ) (below : All (λ n. n < length names) order) (once : AllPairs (λ a b. a ≢ b) order)
    (edges : List Edge) (are : AreEdgesOf p samples names (kept_flags (length names) order) edges) (total billionths : ℕ) where
  -- what a number of a name stands for
  abbrev key_at : ℕ → Written
  key_at n = written_key p names n

  -- the keys that are shown
  abbrev shown : List Written
  shown = map key_at order

  abbrev kept : Written → Bool
  kept k = has key_cmp k shown

  same_kept : is_kept_name p names (kept_flags (length names) order) ≡ kept
  same_kept = λ i k. (same_found (λ n. eq_by_cmp key_cmp k (key_at n)) (kept_numbers (kept_flags (length names) order) (length names)) order (λ m. kept_are (length names) m order below)
      ∙ sym (list_any-renamed key_at (eq_by_cmp key_cmp k) order)) i

  same_number : (a b : ℕ) → a < length names → b < length names → key_at a ≡ key_at b → a ≡ b
  same_number a b in_a in_b same =
      let at : (n : ℕ) → n < length names → get_or (map (key_written p) names) n (key_written p no_key) ≡ key_at n = λ n h. get_or-map (key_written p) names n no_key (key_written p no_key) h in
      elim (cases_order a b) [
        | inl is ↦ is
        | inr (inl less) ↦ absurd (distinct a b (key_written p no_key) less (omega (arith, in_b, length-map names (key_written p))) (at a in_a ∙ same ∙ sym (at b in_b)))
        | inr (inr more) ↦ absurd (distinct b a (key_written p no_key) more (omega (arith, in_a, length-map names (key_written p))) (at b in_b ∙ sym same ∙ sym (at a in_a)))
      ]

  -- a number whose key is shown is one of those that are shown
  among_shown : (a : ℕ) → a < length names → kept (key_at a) ≡ true → among a order ≡ true
  among_shown a in_a is = go order below (sym (list_any-renamed key_at (eq_by_cmp key_cmp (key_at a)) order) ∙ is) where
    go : (ns : List ℕ) → All (λ n. n < length names) ns → list_any (λ n. eq_by_cmp key_cmp (key_at a) (key_at n)) ns ≡ true → among a ns ≡ true
    go [] all found = absurd (false≢true found)
    go (n ∷ ns) all found =
        either (eq_by_cmp key_cmp (key_at a) (key_at n)) (list_any (λ m. eq_by_cmp key_cmp (key_at a) (key_at m)) ns) found
        (λ here. ap (λ b. b || among a ns) (unsigned_tied a n ∙ eq-eqb a n (same_number a n in_a (All-head (λ m. m < length names) n ns all) (tied (key_at a) (key_at n) here))))
        (λ later. or_later (eq_by_cmp nat_cmp a n) (among a ns) (go ns (All-tail (λ m. m < length names) n ns all) later)) where
          or_later : (x y : Bool) → y ≡ true → (x || y) ≡ true
          or_later true y e = refl
          or_later false y e = e

  -- the edge between two names, where the pair occurs
  pub between : (a b : ℕ) → a < length names → b < length names
      → edges_between a b edges ≡ cond (edge_occurs key_cmp kept samples (key_at a) (key_at b)) (record { from = a; to = b; value = edge_sum key_cmp kept samples (key_at a) (key_at b) } ∷ []) []
  between a b in_a in_b = are.each a b in_a in_b
      ∙ ap (λ (k : Written → Bool). cond (edge_occurs key_cmp k samples (key_at a) (key_at b)) (record { from = a; to = b; value = edge_sum key_cmp k samples (key_at a) (key_at b) } ∷ []) []) same_kept

  -- what passes a test of its value
  passing : (test : Edge → Bool) (a b : ℕ) → a < length names → b < length names
      → edges_between a b (filter test edges)
      ≡ cond (edge_occurs key_cmp kept samples (key_at a) (key_at b) && test (record { from = a; to = b; value = edge_sum key_cmp kept samples (key_at a) (key_at b) }))
      (record { from = a; to = b; value = edge_sum key_cmp kept samples (key_at a) (key_at b) } ∷ []) []
  passing test a b in_a in_b =
      let x : Edge = record { from = a; to = b; value = edge_sum key_cmp kept samples (key_at a) (key_at b) } in
      filter-swap (λ e. eqb e.from a && eqb e.to b) test edges ∙ ap (filter test) (between a b in_a in_b)
      ∙ elim (edge_occurs key_cmp kept samples (key_at a) (key_at b)) as (λ o. filter test (cond o (x ∷ []) []) ≡ cond (o && test x) (x ∷ []) []) [ true ↦ refl | false ↦ refl ]

  -- the heavy edges between two names are the one that the report shows, if any
  pub heavy_between : (a b : ℕ) → a < length names → b < length names
      → edges_between a b (filter (is_heavy_edge total billionths) edges)
      ≡ cond (has_heavy_edge key_cmp kept samples total billionths (key_at a) (key_at b)) (record { from = a; to = b; value = edge_sum key_cmp kept samples (key_at a) (key_at b) } ∷ []) []
  heavy_between = passing (is_heavy_edge total billionths)

  light_between : (a b : ℕ) → a < length names → b < length names
      → length (edges_between a b (filter (is_light_edge total billionths) edges)) ≡ once_if (has_light_edge key_cmp kept samples total billionths (key_at a) (key_at b))
  light_between a b in_a in_b =
      ap length (passing (is_light_edge total billionths) a b in_a in_b)
      ∙ length-one (has_light_edge key_cmp kept samples total billionths (key_at a) (key_at b)) (record { from = a; to = b; value = edge_sum key_cmp kept samples (key_at a) (key_at b) })

  -- both ends of an edge are shown
  ends_shown : All (λ (e : Edge). (among e.from order ≡ true) × (among e.to order ≡ true)) edges
  ends_shown = go edges refl where
    one : (i : ℕ) (d : Edge) → i < length edges → (among (get_or edges i d).from order ≡ true) × (among (get_or edges i d).to order ≡ true)
    one i d within =
        let x : Edge = get_or edges i d in
        let ends = All-get_or (λ (e : Edge). (e.from < length names) × (e.to < length names)) edges i d within are.within in
        let some : 0 < length (edges_between x.from x.to edges) = filter_some (λ (e : Edge). eqb e.from x.from && eqb e.to x.to) edges i d within
        (ap (λ b. b && eqb x.to x.to) (eq-eqb x.from x.from refl) ∙ eq-eqb x.to x.to refl) in
        let occurs : edge_occurs key_cmp kept samples (key_at x.from) (key_at x.to) ≡ true =
        must (edge_occurs key_cmp kept samples (key_at x.from) (key_at x.to)) (record { from = x.from; to = x.to; value = edge_sum key_cmp kept samples (key_at x.from) (key_at x.to) }) (omega (arith, some, ap length (between x.from x.to ends.0 ends.1))) in
        let two = occurs_kept kept (key_at x.from) (key_at x.to) samples occurs in
        (among_shown x.from ends.0 two.0, among_shown x.to ends.1 two.1) where
          must : (o : Bool) (x : Edge) → 0 < length (cond o (x ∷ []) []) → o ≡ true
          must true x some = refl
          must false x some = absurd (omega (arith, some))

    go : (es : List Edge) → es ≡ edges → All (λ (e : Edge). (among e.from order ≡ true) × (among e.to order ≡ true)) es
    go [] is = All-nil _
    go (e ∷ es) is = subst (All (λ (x : Edge). (among x.from order ≡ true) × (among x.to order ≡ true))) (sym is)
        (All-from_get_or (λ (x : Edge). (among x.from order ≡ true) × (among x.to order ≡ true)) edges e (λ i h. one i e h))

  -- the light edges
  abbrev light : List Edge
  light = filter (is_light_edge total billionths) edges

  light_ends : All (λ (e : Edge). (among e.from order ≡ true) × (among e.to order ≡ true)) light
  light_ends = All-filter (is_light_edge total billionths) (λ (e : Edge). (among e.from order ≡ true) × (among e.to order ≡ true)) edges ends_shown

  from_one : (a : ℕ) → a < length names → length (filter (λ (e : Edge). eqb e.from a) light) ≡ length (filter (has_light_edge key_cmp kept samples total billionths (key_at a)) shown)
  from_one a in_a =
      sym (split_count (λ (e : Edge). e.to) order (filter (λ (e : Edge). eqb e.from a) light) once
      (All-filter (λ (e : Edge). eqb e.from a) (λ (e : Edge). among e.to order ≡ true) light (All-with {P = λ (e : Edge). (among e.from order ≡ true) × (among e.to order ≡ true)} (λ e h. h.1) light light_ends)))
      ∙ same_sums (λ b. length (filter (λ (e : Edge). eqb e.to b) (filter (λ (e : Edge). eqb e.from a) light))) (λ b. once_if (has_light_edge key_cmp kept samples total billionths (key_at a) (key_at b))) order
      (All-with {P = λ n. n < length names} (λ b in_b. ap length (filter-both (λ (e : Edge). eqb e.to b) (λ (e : Edge). eqb e.from a) light) ∙ light_between a b in_a in_b) order below)
      ∙ sym (length-filter_map (has_light_edge key_cmp kept samples total billionths (key_at a)) key_at order)

  -- the count of edges between the keys that are shown that are too light
  pub light_count_is : length light ≡ light_edge_count key_cmp shown samples total billionths
  light_count_is =
      sym (split_count (λ (e : Edge). e.from) order light once (All-with {P = λ (e : Edge). (among e.from order ≡ true) × (among e.to order ≡ true)} (λ e h. h.0) light light_ends))
      ∙ same_sums (λ a. length (filter (λ (e : Edge). eqb e.from a) light)) (λ a. length (filter (has_light_edge key_cmp kept samples total billionths (key_at a)) shown)) order
      (All-with {P = λ n. n < length names} (λ a in_a. from_one a in_a) order below)
      ∙ sym (sum-map (λ caller. length (filter (has_light_edge key_cmp kept samples total billionths caller) shown)) key_at order)
