-- What is written of a graph in which nothing is trimmed is the peek report.
use Rattle.std.proofs.Common.{◌≡◌, ℕ, zero, suc, ◌+◌, ◌<◌, ◌≤◌, Bool, true, false, cond, not, ◌&&◌, ◌||◌, nat_abs, pos, ◌+ℤ◌, List, [], ◌∷◌, ◌++◌, length, map, drop, get_or, replicate, All, Option, refl, sym, ap, subst, ◌∙◌, arith, append_assoc, length-append}
use Rattle.std.proofs.Math.Seq.{get_or-append_seam}
use Rattle.std.specs.List.{filter, list_any, sum_by, range_with_len}
use Rattle.std.specs.Ordering.{eq_by_cmp}
use Rattle.std.proofs.lemmas.List.{drop_more, drop_all, append-nil}
use Rattle.std.proofs.lemmas.List.Elements.{All-head, All-tail, All-filter}
use Rattle.std.proofs.lemmas.List.Sums.{sum_by-cons}
use Rattle.pp_model.specs.declared.config.Config.{Config}
use Rattle.pp_model.specs.declared.loaded.Loaded.{Loaded}
use Rattle.pp_model.specs.declared.profile.Profile.{Profile}
use Rattle.pp_model.specs.declared.verdicts.Verdicts.{Verdicts}
use Rattle.pp_model.specs.Finders.{Finders}
use Rattle.pp_model.specs.FrameTexts.{Written}
use Rattle.pp_units.specs.Head.{Facts, facts_text}
use Rattle.pp_units.specs.Rows.{showing_line}
use Rattle.pp_grain.specs.declared.key.Key.{Key}
use Rattle.pp_grain.specs.Keys.{key_cmp, key_written}
use Rattle.pp_count.specs.declared.counted.Counted.{Counted}
use Rattle.pp_count.specs.declared.edge.Edge.{Edge}
use Rattle.pp_count.specs.Counted.{IsCountedOf, report_samples}
use Rattle.pp_count.specs.Counts.{total_of}
use Rattle.pp_count.specs.EdgeSums.{has_edge, has_pair, edge_occurs, edge_sum, is_kept_name, AreEdgesAbout, edges_between}
use Rattle.pp_count.specs.Edges.{is_kept_key, is_marked}
use Rattle.pp_count.specs.Seeing.{HoldsFilters}
use Rattle.pp_count.specs.Sums.{Seen, has, occurs}
use Rattle.pp_count.specs.Table.{no_key, written_key}
use Rattle.pp_count.proofs.Ties.{tied_self}
use Rattle.pp_graph.specs.declared.ranking.Ranked.{Ranked}
use Rattle.pp_graph.specs.Figures.{figures}
use Rattle.pp_graph.specs.Links.{EdgeLinks, live_edges}
use Rattle.pp_graph.specs.Trim.{all_report_keys}
use Rattle.pp_graph.specs.Trimmed.{IsWholeRanking}
use Rattle.pp_graph.specs.KeyRows.{CanShow}
use Rattle.pp_graph.specs.Sampled.{seen_row}
use Rattle.pp_graph.specs.Neighbours.{neighbour_list}
use Rattle.pp_graph.proofs.Whole.{light-none}
use Rattle.pp_tree.specs.Nodes.{Node, table_heading, tree_nodes_text}
use Rattle.pp_tree.specs.Tree.{near_of, node_of}
use Rattle.pp_tree.specs.Peek.{is_found_key, peek_text}
use Rattle.pp_tree.specs.Ends.{Pairs, ShowsPairs, callers_in, callees_in, node_at, peeked_text, edge_if}
use Rattle.pp_tree.specs.Whole.{any_key, all_pairs, pairs_about}
use Rattle.pp_tree.proofs.Shown.{keys_of_names, nodes_are}

-- a filter, item by item
pub kept_more : (t : ℕ → Bool) (order : List ℕ) (i d : ℕ) (done : List ℕ) → i < length order → t (get_or order i d) ≡ true
    → done ++ filter t (drop i order) ≡ filter t order → (done ++ get_or order i d ∷ []) ++ filter t (drop (i + 1) order) ≡ filter t order
kept_more t order i d done here passes so_far =
    append_assoc done (get_or order i d ∷ []) (filter t (drop (i + 1) order))
    ∙ ap (λ b. done ++ cond b (get_or order i d ∷ filter t (drop (i + 1) order)) (filter t (drop (i + 1) order))) (sym passes)
    ∙ ap (λ ns. done ++ filter t ns) (sym (drop_more order i d here)) ∙ so_far

pub left_out : (t : ℕ → Bool) (order : List ℕ) (i d : ℕ) (done : List ℕ) → i < length order → t (get_or order i d) ≡ false
    → done ++ filter t (drop i order) ≡ filter t order → done ++ filter t (drop (i + 1) order) ≡ filter t order
left_out t order i d done here fails so_far =
    ap (λ b. done ++ cond b (get_or order i d ∷ filter t (drop (i + 1) order)) (filter t (drop (i + 1) order))) (sym fails)
    ∙ ap (λ ns. done ++ filter t ns) (sym (drop_more order i d here)) ∙ so_far

pub all_looked : (t : ℕ → Bool) (order : List ℕ) (i : ℕ) (done : List ℕ) → length order ≤ i → done ++ filter t (drop i order) ≡ filter t order → done ≡ filter t order
all_looked t order i done past so_far = sym (append-nil done) ∙ ap (λ ns. done ++ filter t ns) (sym (drop_all i order past)) ∙ so_far

-- Edges over keys of which all that occur are kept.
module _ (kept : Written → Bool) where
  all_of : (k : Written) (ks all : List Written) → ((q : Written) → has key_cmp q all ≡ true → kept q ≡ true) → ((q : Written) → has key_cmp q ks ≡ true → has key_cmp q all ≡ true) → filter kept ks ≡ filter any_key ks
  all_of k [] all keeps within = refl
  all_of k (x ∷ ks) all keeps within =
      (λ i. cond (keeps x (within x (ap (λ b. b || has key_cmp x ks) (tied_self x))) i) (x ∷ filter kept ks) (filter kept ks))
      ∙ ap (λ r. x ∷ r) (all_of k ks all keeps (λ q h. within q (ap (λ b. eq_by_cmp key_cmp q x || b) h ∙ or-true (eq_by_cmp key_cmp q x)))) where
        or-true : (b : Bool) → (b || true) ≡ true
        or-true true = refl
        or-true false = refl

  edge-alike : (a b : Written) (s : Seen Written) → ((q : Written) → has key_cmp q s.keys ≡ true → kept q ≡ true) → has_edge key_cmp kept a b s.keys ≡ has_edge key_cmp any_key a b s.keys
  edge-alike a b s keeps = ap (λ ks. not (eq_by_cmp key_cmp a b) && has_pair key_cmp a b ks) (all_of a s.keys s.keys keeps (λ q h. h))

  parts : (s : Seen Written) (S : List (Seen Written)) → ((q : Written) → occurs key_cmp (s ∷ S) q ≡ true → kept q ≡ true)
      → ((q : Written) → has key_cmp q s.keys ≡ true → kept q ≡ true) × ((q : Written) → occurs key_cmp S q ≡ true → kept q ≡ true)
  parts s S keeps = (
    (λ q h. keeps q (ap (λ b. b || occurs key_cmp S q) h)),
    (λ q h. keeps q (ap (λ b. has key_cmp q s.keys || b) h ∙ elim (has key_cmp q s.keys) as (λ b. (b || true) ≡ true) [ true ↦ refl | false ↦ refl ])),
  )

  pub occurs-alike : (a b : Written) (S : List (Seen Written)) → ((q : Written) → occurs key_cmp S q ≡ true → kept q ≡ true) → edge_occurs key_cmp kept S a b ≡ edge_occurs key_cmp any_key S a b
  occurs-alike a b [] keeps = refl
  occurs-alike a b (s ∷ S) keeps = λ i. edge-alike a b s (parts s S keeps).0 i || occurs-alike a b S (parts s S keeps).1 i

  pub sum-alike : (a b : Written) (S : List (Seen Written)) → ((q : Written) → occurs key_cmp S q ≡ true → kept q ≡ true) → edge_sum key_cmp kept S a b ≡ edge_sum key_cmp any_key S a b
  sum-alike a b [] keeps = refl
  sum-alike a b (s ∷ S) keeps = λ i. cond (edge-alike a b s (parts s S keeps).0 i) s.value (pos 0) +ℤ sum-alike a b S (parts s S keeps).1 i

-- Every name is kept.
module _ (p : Profile) (names : List Key) where
  at-replicated : (n k : ℕ) → k < n → is_kept_key (replicate n true) k ≡ true
  at-replicated zero k within = absurd (omega (arith, within))
  at-replicated (suc n) zero within = refl
  at-replicated (suc n) (suc k) within = at-replicated n k (omega (arith, within))

  numbers_all : (a n m : ℕ) → a + n ≤ m → filter (is_kept_key (replicate m true)) (range_with_len a n) ≡ range_with_len a n
  numbers_all a zero m within = refl
  numbers_all a (suc n) m within =
      (λ i. cond (at-replicated m a (omega (arith, within)) i) (a ∷ filter (is_kept_key (replicate m true)) (range_with_len (a + 1) n)) (filter (is_kept_key (replicate m true)) (range_with_len (a + 1) n)))
      ∙ ap (λ r. a ∷ r) (numbers_all (a + 1) n m (omega (arith, within)))

  in_range : (q : Written) (before after : List Key) → names ≡ before ++ after → list_any (eq_by_cmp key_cmp q) (map (key_written p) after) ≡ true
      → list_any (λ n. eq_by_cmp key_cmp q (written_key p names n)) (range_with_len (length before) (length after)) ≡ true
  in_range q before [] is some = some
  in_range q before (x ∷ after) is some =
      let here : written_key p names (length before) ≡ key_written p x = ap (λ ks. written_key p ks (length before)) is ∙ ap (key_written p) (get_or-append_seam before x after no_key) in
      let one : length (before ++ x ∷ []) ≡ length before + 1 = length-append before (x ∷ []) in
      elim (eq_by_cmp key_cmp q (key_written p x)) as (λ b. eq_by_cmp key_cmp q (key_written p x) ≡ b → (b || list_any (eq_by_cmp key_cmp q) (map (key_written p) after)) ≡ true
      → (eq_by_cmp key_cmp q (written_key p names (length before)) || list_any (λ n. eq_by_cmp key_cmp q (written_key p names n)) (range_with_len (length before + 1) (length after))) ≡ true) [
        | true ↦ λ e s. ap (λ b. b || list_any (λ n. eq_by_cmp key_cmp q (written_key p names n)) (range_with_len (length before + 1) (length after))) (ap (eq_by_cmp key_cmp q) here ∙ e)
        | false ↦ λ e s.
            ap (λ b. eq_by_cmp key_cmp q (written_key p names (length before)) || b)
            (ap (λ m. list_any (λ n. eq_by_cmp key_cmp q (written_key p names n)) (range_with_len m (length after))) (sym one)
            ∙ in_range q (before ++ x ∷ []) after (is ∙ sym (append_assoc before (x ∷ []) after)) s)
            ∙ elim (eq_by_cmp key_cmp q (written_key p names (length before))) as (λ b. (b || true) ≡ true) [ true ↦ refl | false ↦ refl ]
      ] refl some

  pub all_kept_names : (q : Written) → list_any (eq_by_cmp key_cmp q) (map (key_written p) names) ≡ true → is_kept_name p names (replicate (length names) true) q ≡ true
  all_kept_names q some =
      ap (list_any (λ n. eq_by_cmp key_cmp q (written_key p names n))) (numbers_all 0 (length names) (length names) (omega arith))
      ∙ in_range q [] names refl some

-- the mark of a name is that of its key
marked_at : (p : Profile) (own : Written → Bool) (ks : List Key) (n : ℕ) → n < length ks → get_or (map (λ key. own (key_written p key)) ks) n false ≡ own (written_key p ks n)
marked_at p own [] n within = absurd (omega (arith, within))
marked_at p own (k ∷ ks) zero within = refl
marked_at p own (k ∷ ks) (suc n) within = marked_at p own ks n (omega (arith, within))

-- what is made of the items that pass, where it is alike at each of them
map_alike : {X Y : Type 0} (test : X → Bool) (g h : X → Y) → ((x : X) → test x ≡ true → g x ≡ h x) → (xs : List X) → map g (filter test xs) ≡ map h (filter test xs)
map_alike test g h alike [] = refl
map_alike test g h alike (x ∷ xs) =
    elim (test x) as (λ b. test x ≡ b → map g (cond b (x ∷ filter test xs) (filter test xs)) ≡ map h (cond b (x ∷ filter test xs) (filter test xs))) [
      | true ↦ λ passes i. alike x passes i ∷ map_alike test g h alike xs i
      | false ↦ λ fails. map_alike test g h alike xs
    ] refl

-- The pairs about a key of its own are all its pairs.
module _ (own : Written → Bool) (pairs : Pairs) (k : Written) (is : own k ≡ true) where
  callers_about : callers_in (pairs_about own pairs) k ≡ callers_in pairs k
  callers_about = λ i. neighbour_list key_cmp (λ caller. shown caller i) (λ caller. pairs.value caller k) pairs.keys where
    shown : (caller : Written) → ((own caller || own k) && pairs.shows caller k) ≡ pairs.shows caller k
    shown caller =
        ap (λ b. (own caller || b) && pairs.shows caller k) is
        ∙ elim (own caller) as (λ b. ((b || true) && pairs.shows caller k) ≡ pairs.shows caller k) [ true ↦ refl | false ↦ refl ]

  callees_about : callees_in (pairs_about own pairs) k ≡ callees_in pairs k
  callees_about = λ i. neighbour_list key_cmp (λ callee. (is i || own callee) && pairs.shows k callee) (λ callee. pairs.value k callee) pairs.keys

module _ (l : Loaded) (v : Verdicts) (config : Config) (column : Option ℕ) (c : Counted) (f : Finders) (holds : HoldsFilters l v config.filtering f) (counted : IsCountedOf l v config column c) where
  -- the graph of the edges about some keys shows the pairs about them
  pub about_shows : (own : Written → Bool) (g : EdgeLinks) (keep marked : List Bool) (edges : List Edge) → keep ≡ replicate (length c.sums.names) true
      → marked ≡ map (λ key. own (key_written l.profile key)) c.sums.names → live_edges g ≡ edges
      → AreEdgesAbout l.profile (report_samples l.profile f config column) c.sums.names keep marked edges
      → ShowsPairs l.profile c.sums.names g (pairs_about own (all_pairs l.profile f config column))
  about_shows own g keep marked edges keeps marks live are = record {
    keys = keys_of_names l.profile (report_samples l.profile f config column) c.sums (counted.sums_are f holds);
    once = (counted.sums_are f holds).once;
    edges = λ a b in_a in_b.
        ap (edges_between a b) live ∙ are.each a b in_a in_b
        ∙ same a b in_a in_b;
  } where
    mark : (n : ℕ) → n < length c.sums.names → is_marked marked n ≡ own (written_key l.profile c.sums.names n)
    mark n within = ap (λ marks. is_marked marks n) marks ∙ marked_at l.profile own c.sums.names n within

    every : (q : Written) → occurs key_cmp (report_samples l.profile f config column) q ≡ true → is_kept_name l.profile c.sums.names keep q ≡ true
    every q some =
        ap (λ k. is_kept_name l.profile c.sums.names k q) keeps
        ∙ all_kept_names l.profile c.sums.names q ((counted.sums_are f holds).occur q ∙ some)

    same : (a b : ℕ) → a < length c.sums.names → b < length c.sums.names
        → cond ((is_marked marked a || is_marked marked b) && edge_occurs key_cmp (is_kept_name l.profile c.sums.names keep) (report_samples l.profile f config column) (written_key l.profile c.sums.names a) (written_key l.profile c.sums.names b))
        (record {
          from = a;
          to = b;
          value = edge_sum key_cmp (is_kept_name l.profile c.sums.names keep) (report_samples l.profile f config column) (written_key l.profile c.sums.names a) (written_key l.profile c.sums.names b);
        } ∷ []) []
        ≡ edge_if l.profile c.sums.names (pairs_about own (all_pairs l.profile f config column)) a b
    same a b in_a in_b =
        let x : Written = written_key l.profile c.sums.names a in
        let y : Written = written_key l.profile c.sums.names b in
        let sums = edge_sum key_cmp any_key (report_samples l.profile f config column) x y in
        λ i. cond
        ((mark a in_a i || mark b in_b i) && (occurs-alike (is_kept_name l.profile c.sums.names keep) x y (report_samples l.profile f config column) every
        ∙ sym (and-true (edge_occurs key_cmp any_key (report_samples l.profile f config column) x y))
        ∙ ap (λ b. edge_occurs key_cmp any_key (report_samples l.profile f config column) x y && b) (sym (light-none (total_of l.profile f config column) sums))) i)
        (record { from = a; to = b; value = sum-alike (is_kept_name l.profile c.sums.names keep) x y (report_samples l.profile f config column) every i } ∷ []) [] where
          and-true : (b : Bool) → (b && true) ≡ b
          and-true true = refl
          and-true false = refl

  -- what is written of those that are found is the peek report
  pub peeked_is : (t : Ranked) (found : List Bool) (shown : List ℕ) (h : Facts) → IsWholeRanking l v config column 0 c t
      → found ≡ map (λ key. is_found_key l.profile f config column (key_written l.profile key)) c.sums.names
      → shown ≡ filter (λ n. get_or found n false) t.order
      → peeked_text l.profile c.sums t.shown_flat shown (pairs_about (is_found_key l.profile f config column) (all_pairs l.profile f config column)) h
      ≡ peek_text l.profile f config column h
  peeked_is t found shown h whole found_is shown_is =
      let samples : List (Seen Written) = report_samples l.profile f config column in
      let test : Written → Bool = is_found_key l.profile f config column in
      let below : All (λ n. n < length c.sums.names) shown = subst (λ ns. All (λ n. n < length c.sums.names) ns) (sym shown_is) (All-filter (λ n. get_or found n false) (λ n. n < length c.sums.names) t.order whole.below) in
      let keys : map (written_key l.profile c.sums.names) shown ≡ filter test (all_report_keys l.profile f config column) =
      ap (map (written_key l.profile c.sums.names)) (shown_is ∙ ap (λ fs. filter (λ n. get_or fs n false) t.order) found_is)
      ∙ filtered t.order whole.below ∙ ap (filter test) (whole.keys f holds) in
      let all : Pairs = all_pairs l.profile f config column in
      let about : Pairs = pairs_about test all in
      let node : Written → Node = λ k. record { row = seen_row samples k; callers = map near_of (callers_in about k); callees = map near_of (callees_in about k) } in
      let nodes : map (node_at l.profile c.sums about) shown ≡ map (node_of (figures l.profile f config column) any_key 0) (filter test (all_report_keys l.profile f config column)) =
      nodes_are l.profile samples c.sums about shown (counted.sums_are f holds) below ∙ ap (map node) keys
      ∙ map_alike test node (node_of (figures l.profile f config column) any_key 0)
      (λ k is i. record { row = seen_row samples k; callers = map near_of (callers_about test all k is i); callees = map near_of (callees_about test all k is i) })
      (all_report_keys l.profile f config column) in
      λ i. facts_text h ++ showing_line h.unit h.total (whole.shown_flat f holds i) ++ table_heading ++ tree_nodes_text h.unit h.total (pos 0) (nodes i) where
        filtered : (order : List ℕ) → All (λ n. n < length c.sums.names) order
            → map (written_key l.profile c.sums.names) (filter (λ n. get_or (map (λ key. is_found_key l.profile f config column (key_written l.profile key)) c.sums.names) n false) order)
            ≡ filter (is_found_key l.profile f config column) (map (written_key l.profile c.sums.names) order)
        filtered [] all = refl
        filtered (n ∷ order) all =
            let rest = filtered order (All-tail (λ m. m < length c.sums.names) n order all) in
            (λ i. map (written_key l.profile c.sums.names) (cond (marked_at l.profile (is_found_key l.profile f config column) c.sums.names n (All-head (λ m. m < length c.sums.names) n order all) i)
            (n ∷ filter (λ m. get_or (map (λ key. is_found_key l.profile f config column (key_written l.profile key)) c.sums.names) m false) order)
            (filter (λ m. get_or (map (λ key. is_found_key l.profile f config column (key_written l.profile key)) c.sums.names) m false) order)))
            ∙ elim (is_found_key l.profile f config column (written_key l.profile c.sums.names n)) as (λ b.
            map (written_key l.profile c.sums.names) (cond b (n ∷ filter (λ m. get_or (map (λ key. is_found_key l.profile f config column (key_written l.profile key)) c.sums.names) m false) order)
            (filter (λ m. get_or (map (λ key. is_found_key l.profile f config column (key_written l.profile key)) c.sums.names) m false) order))
            ≡ cond b (written_key l.profile c.sums.names n ∷ filter (is_found_key l.profile f config column) (map (written_key l.profile c.sums.names) order)) (filter (is_found_key l.profile f config column) (map (written_key l.profile c.sums.names) order))) [
              | true ↦ ap (λ r. written_key l.profile c.sums.names n ∷ r) rest
              | false ↦ rest
            ]

-- fewer flats come to no more
fewer : (t : ℕ → Bool) (size : ℕ → ℕ) (order : List ℕ) → sum_by size (filter t order) ≤ sum_by size order
fewer t size [] = omega arith
fewer t size (n ∷ order) =
    elim (t n) as (λ b. sum_by size (cond b (n ∷ filter t order) (filter t order)) ≤ sum_by size (n ∷ order)) [
      | true ↦ omega (arith, fewer t size order, sum_by-cons size n order, sum_by-cons size n (filter t order))
      | false ↦ omega (arith, fewer t size order, sum_by-cons size n order)
    ]

-- those that are found can be shown
pub found_fits : (l : Loaded) (v : Verdicts) (config : Config) (column : Option ℕ) (c : Counted) (t : Ranked) (test : ℕ → Bool) (shown : List ℕ)
    → IsCountedOf l v config column c → IsWholeRanking l v config column 0 c t → shown ≡ filter test t.order → CanShow l.profile c.sums shown
found_fits l v config column c t test shown counted whole is = record {
  keys = counted.of_profile;
  fits = counted.fits;
  below = subst (λ ns. All (λ n. n < length c.sums.names) ns) (sym is) (All-filter test (λ n. n < length c.sums.names) t.order whole.below);
  small = omega (arith, whole.small, ap (sum_by (λ n. nat_abs (get_or c.sums.flat n (pos 0)))) is, fewer test (λ n. nat_abs (get_or c.sums.flat n (pos 0))) t.order);
}
