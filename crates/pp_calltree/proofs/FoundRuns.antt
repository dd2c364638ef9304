-- Branches that are found along sorted paths, and the paths that are left.
use Rattle.std.proofs.Common.{◌≡◌, ℕ, zero, suc, ◌+◌, ◌<◌, ◌≤◌, ◌^◌, ◌==◌, ◌||◌, true, false, cond, nat_abs, List, [], ◌∷◌, ◌++◌, length, take, drop, get_or, map, Option, Some, None, inl, inr, refl, sym, ap, subst, ◌∙◌, append_assoc, arith}
use Rattle.std.specs.Prelude.{MatchOption}
use Rattle.std.specs.List.{list_any, slice_get}
use Rattle.std.specs.Option.{option_map_or}
use Rattle.std.specs.Ordering.{nat_cmp, eq_by_cmp}
use Rattle.std.proofs.lemmas.Bool.{false≢true, true≢false, cases_Bool, cases_lt, eq-eqb, eqb-true, le-ltb}
use Rattle.std.proofs.lemmas.List.{append-nil, drop_all, map-append, take-append-drop}
use Rattle.std.proofs.lemmas.List.Folds.{list_any-append}
use Rattle.std.proofs.lemmas.List.Sums.{sum_by-append, sum_by-cons}
use Rattle.std.proofs.lemmas.Option.{slice_get-get_or}
use Rattle.pp_count.specs.Sums.{Seen, absolute, sum_where}
use Rattle.pp_calltree.specs.declared.branch.Branch.{Branch}
use Rattle.pp_calltree.specs.declared.path.Path.{Path}
use Rattle.pp_calltree.specs.CallTree.{any_path, is_end, first_key, first_keys}
use Rattle.pp_calltree.specs.Branches.{branch_said, AreOrdered, GainsBranch, IsBranchOf, IsStep}
use Rattle.pp_calltree.specs.Paths.{below, first_run, has_key_below, path_below, run_length, IsRising}
use Rattle.pp_calltree.proofs.Runs.{onto, starts_past, AllPast, first_keys-append, same_heads, before_parts, rises_parts, past_parts, TurnsFrom, after_run, saying, ordered_more, ordered_past, ordered_none}

-- past the end of a list
slice_get_short : (xs : List ℕ) (n : ℕ) → slice_get xs n ≡ None → length xs ≤ n
slice_get_short xs n none = elim (cases_lt n (length xs)) as (λ _. length xs ≤ n) [
  | inl here ↦ absurd (never (get_or xs n 0) (sym none ∙ slice_get-get_or xs n 0 here))
  | inr past ↦ past
] where
  never : (k : ℕ) → None ≡ Some k → ⊥
  never k h = (cc)

-- Of the paths these are left, and the others have these branches. Those that are left begin with keys past theirs.
pub record FoundTo (depth : ℕ) (paths rest : List Path) (list : List Branch) : Type 0 where
  pub done : List (Seen ℕ)
  pub parts : below depth paths ≡ done ++ below depth rest
  pub ordered : AreOrdered depth done list
  pub up : IsRising (below depth rest)
  pub past : (m : ℕ) → list_any (eq_by_cmp nat_cmp m) (first_keys done) ≡ true → AllPast m (below depth rest)

pub found_none : (depth : ℕ) (paths rest : List Path) (list : List Branch) → rest ≡ paths → list ≡ [] → IsRising (below depth paths) → FoundTo depth paths rest list
found_none depth paths rest list same none up = record {
  done = [];
  parts = ap (below depth) (sym same);
  ordered = ordered_none depth list none;
  up = subst (λ ps. IsRising (below depth ps)) (sym same) up;
  past = λ m found. absurd (false≢true found);
}

-- a path has ended
pub found_past : (depth : ℕ) (paths : List Path) (x : Path) (rest : List Path) (list : List Branch) → length x.keys.now ≤ depth → FoundTo depth paths (x ∷ rest) list → FoundTo depth paths rest list
found_past depth paths x rest list short so_far =
    let ended : path_below depth x ≡ record { value = x.value; keys = [] } = ap (λ ks. record { value = x.value; keys = ks }) (drop_all depth x.keys.now short) in
    record {
      done = so_far.done ++ record { value = x.value; keys = [] } ∷ [];
      parts = so_far.parts ∙ ap (λ s. so_far.done ++ s ∷ below depth rest) ended ∙ sym (append_assoc so_far.done (record { value = x.value; keys = [] } ∷ []) (below depth rest));
      ordered = ordered_past depth so_far.done x.value list so_far.ordered;
      up = so_far.up.1;
      past = λ m found. (so_far.past m (sym (ap (list_any (eq_by_cmp nat_cmp m)) (first_keys-append so_far.done (record { value = x.value; keys = [] } ∷ []) ∙ append-nil (first_keys so_far.done))) ∙ found)).1;
    }

-- the paths of a run, and what comes after it
module _ (depth k : ℕ) where
  head_of : (keys : List ℕ) → option_map_or (λ other. other == k) (slice_get keys depth) false ≡ true → drop depth keys ≡ k ∷ drop (depth + 1) keys
  head_of keys here = by depth keys here ∙ (let next : suc depth ≡ depth + 1 = omega arith in ap (λ n. k ∷ drop n keys) next) where
    by : (n : ℕ) (ks : List ℕ) → option_map_or (λ other. other == k) (slice_get ks n) false ≡ true → drop n ks ≡ k ∷ drop (suc n) ks
    by zero [] e = absurd (false≢true e)
    by zero (q ∷ ks) e = ap (λ m. m ∷ ks) (eqb-true q k e)
    by (suc n) [] e = absurd (false≢true e)
    by (suc n) (q ∷ ks) e = by n ks e

  other_of : (keys : List ℕ) → option_map_or (λ other. other == k) (slice_get keys depth) false ≡ option_map_or (λ other. other == k) (first_key (drop depth keys)) false
  other_of keys = by depth keys where
    by : (n : ℕ) (ks : List ℕ) → option_map_or (λ other. other == k) (slice_get ks n) false ≡ option_map_or (λ other. other == k) (first_key (drop n ks)) false
    by zero [] = refl
    by zero (q ∷ ks) = refl
    by (suc n) [] = refl
    by (suc n) (q ∷ ks) = by n ks

  run_is : (paths : List Path) → below depth (take (run_length (has_key_below depth k) paths) paths) ≡ map (onto k) (below (depth + 1) (take (run_length (has_key_below depth k) paths) paths))
  run_is [] = refl
  run_is (x ∷ paths) =
      elim (has_key_below depth k x) as (λ b. has_key_below depth k x ≡ b → below depth (take (cond b (suc (run_length (has_key_below depth k) paths)) 0) (x ∷ paths))
      ≡ map (onto k) (below (depth + 1) (take (cond b (suc (run_length (has_key_below depth k) paths)) 0) (x ∷ paths)))) [
        | true ↦ λ e i. record { value = x.value; keys = head_of x.keys.now e i } ∷ run_is paths i
        | false ↦ λ e. refl
      ] refl

  turns : (paths : List Path) → TurnsFrom k (below depth (drop (run_length (has_key_below depth k) paths) paths))
  turns [] = tt
  turns (x ∷ paths) =
      elim (has_key_below depth k x) as (λ b. has_key_below depth k x ≡ b → TurnsFrom k (below depth (drop (cond b (suc (run_length (has_key_below depth k) paths)) 0) (x ∷ paths)))) [
        | true ↦ λ e. turns paths
        | false ↦ λ e. sym (other_of x.keys.now) ∙ e
      ] refl

size_below : (n m : ℕ) (paths : List Path) → absolute (below n paths) ≡ absolute (below m paths)
size_below n m [] = refl
size_below n m (x ∷ paths) = omega (
  arith,
  size_below n m paths,
  sum_by-cons (λ (t : Seen ℕ). nat_abs t.value) (path_below n x) (below n paths),
  sum_by-cons (λ (t : Seen ℕ). nat_abs t.value) (path_below m x) (below m paths),
)

-- the values of a run are within those of all
pub run_fits : (depth n : ℕ) (paths rest : List Path) (list : List Branch) (run : List Path) → run ≡ take n rest → FoundTo depth paths rest list
    → absolute (below depth paths) < 2 ^ 63 → absolute (below (depth + 1) run) < 2 ^ 63
run_fits depth n paths rest list run is so_far fits =
    let halves : below depth rest ≡ below depth (take n rest) ++ below depth (drop n rest) =
    ap (below depth) (sym (take-append-drop n rest)) ∙ map-append (path_below depth) (take n rest) (drop n rest) in
    omega (
      arith,
      fits,
      ap absolute so_far.parts ∙ sum_by-append (λ (t : Seen ℕ). nat_abs t.value) so_far.done (below depth rest),
      ap absolute halves ∙ sum_by-append (λ (t : Seen ℕ). nat_abs t.value) (below depth (take n rest)) (below depth (drop n rest)),
      size_below (depth + 1) depth run,
      ap (λ ps. absolute (below depth ps)) is,
    )

-- one more run
module _ (depth k : ℕ) (paths : List Path) (x : Path) (after : List Path) (list new : List Branch) (b : Branch) (own : has_key_below depth k x ≡ true)
    (so_far : FoundTo depth paths (x ∷ after) list) where
  abbrev m : ℕ
  m = run_length (has_key_below depth k) after

  abbrev rest_of_run : List Path
  rest_of_run = take m after

  length_is : run_length (has_key_below depth k) (x ∷ after) ≡ suc m
  length_is = ap (λ e. cond e (suc m) 0) own

  abbrev R : List (Seen ℕ)
  R = below (depth + 1) rest_of_run

  abbrev tail : List (Seen ℕ)
  tail = below depth (drop m after)

  run_onto : below depth (x ∷ rest_of_run) ≡ map (onto k) (path_below (depth + 1) x ∷ R)
  run_onto = λ i. record { value = x.value; keys = head_of depth k x.keys.now own i } ∷ run_is depth k after i

  whole_is : below depth (x ∷ after) ≡ map (onto k) (path_below (depth + 1) x ∷ R) ++ tail
  whole_is =
      ap (λ ps. below depth (x ∷ ps)) (sym (take-append-drop m after)) ∙ ap (λ r. path_below depth x ∷ r) (map-append (path_below depth) rest_of_run (drop m after))
      ∙ ap (λ r. r ++ tail) run_onto

  up_parts : IsRising (map (onto k) (path_below (depth + 1) x ∷ R)) × IsRising tail
  up_parts = rises_parts (map (onto k) (path_below (depth + 1) x ∷ R)) tail (subst IsRising whole_is so_far.up)

  fresh : list_any (eq_by_cmp nat_cmp k) (first_keys so_far.done) ≡ false
  fresh = elim (cases_Bool (list_any (eq_by_cmp nat_cmp k) (first_keys so_far.done))) as (λ _. list_any (eq_by_cmp nat_cmp k) (first_keys so_far.done) ≡ false) [
    | inl there ↦ absurd (true≢false (sym (ap (starts_past k) (sym (head_of depth k x.keys.now own)) ∙ (so_far.past k there).0) ∙ le-ltb k k (omega arith)))
    | inr none ↦ none
  ]

  later : AllPast k tail
  later = after_run k (drop (depth + 1) x.keys.now) tail
      (before_parts (k ∷ drop (depth + 1) x.keys.now) (map (onto k) R) tail (subst IsRising whole_is so_far.up).0).1 up_parts.1 (turns depth k after)

  pub found_more : (run other : List Path) → run ≡ take (run_length (has_key_below depth k) (x ∷ after)) (x ∷ after) → other ≡ drop (run_length (has_key_below depth k) (x ∷ after)) (x ∷ after)
      → IsBranchOf depth k run b → new ≡ list ++ b ∷ [] → FoundTo depth paths other new
  found_more run other run_are other_are is more =
      let run_list : run ≡ x ∷ rest_of_run = run_are ∙ ap (λ n. take n (x ∷ after)) length_is in
      let rest_list : other ≡ drop m after = other_are ∙ ap (λ n. drop n (x ∷ after)) length_is in
      let says : branch_said b ≡ saying depth k (path_below (depth + 1) x ∷ R) = λ i. record {
        depth = is.depth_is i;
        key = is.key_is i;
        flat = (is.flat_is ∙ ap (λ ps. sum_where is_end (below (depth + 1) ps)) run_list) i;
        cum = (is.cum_is ∙ ap (λ ps. sum_where any_path (below (depth + 1) ps)) run_list) i;
        samples = below (is.depth_is i + 1) ((is.paths_are ∙ run_list) i);
      } in
      let heads : List (Seen ℕ) = map (onto k) (path_below (depth + 1) x ∷ R) in
      subst (λ ps. FoundTo depth paths ps new) (sym rest_list) (subst (FoundTo depth paths (drop m after)) (sym more) (record {
        done = so_far.done ++ heads;
        parts = so_far.parts ∙ ap (λ r. so_far.done ++ r) whole_is ∙ sym (append_assoc so_far.done heads tail);
        ordered = ordered_more depth k so_far.done list (path_below (depth + 1) x) R b fresh says so_far.ordered up_parts.0;
        up = up_parts.1;
        past = λ q found. elim (cases_Bool (list_any (eq_by_cmp nat_cmp q) (first_keys so_far.done))) as (λ _. AllPast q tail) [
          | inl there ↦ past_parts q heads tail (subst (AllPast q) whole_is (so_far.past q there))
          | inr none ↦
              let same : q ≡ k = eqb-true q k
              (sym (same_heads q k (path_below (depth + 1) x) R)
              ∙ ap (λ e. e || list_any (eq_by_cmp nat_cmp q) (first_keys heads)) (sym none)
              ∙ sym (ap (list_any (eq_by_cmp nat_cmp q)) (first_keys-append so_far.done heads) ∙ list_any-append (eq_by_cmp nat_cmp q) (first_keys so_far.done) (first_keys heads)) ∙ found) in
              subst (λ n. AllPast n tail) (sym same) later
        ];
      }))

-- the paths of one more run are passed, with its branch if there is one
found_next : (depth : ℕ) (paths : List Path) (x : Path) (after run other : List Path) (list new : List Branch) (o : Option ℕ) → slice_get x.keys.now depth ≡ o
    → run ≡ take (first_run depth (x ∷ after)) (x ∷ after) → other ≡ drop (first_run depth (x ∷ after)) (x ∷ after) → IsStep depth run list new
    → FoundTo depth paths (x ∷ after) list → FoundTo depth paths other new
found_next depth paths x after now other list new None here run_is other_is step so_far =
    let one : first_run depth (x ∷ after) ≡ 1 = ap (λ p. option_map_or (λ key. run_length (has_key_below depth key) (x ∷ after)) p 1) here in
    let same : new ≡ list = subst (λ p. MatchOption p (new ≡ list) (λ key. GainsBranch depth key (x ∷ []) list new)) here
    (subst (λ r. IsStep depth r list new) (run_is ∙ ap (λ n. take n (x ∷ after)) one) step) in
    subst (λ ps. FoundTo depth paths ps new) (sym (other_is ∙ ap (λ n. drop n (x ∷ after)) one)) (subst (FoundTo depth paths after) (sym same)
    (found_past depth paths x after list (slice_get_short x.keys.now depth here) so_far))
found_next depth paths x after now other list new (Some k) here run_is other_is step so_far =
    let own : has_key_below depth k x ≡ true = ap (λ p. option_map_or (λ q. q == k) p false) here ∙ eq-eqb k k refl in
    let count : first_run depth (x ∷ after) ≡ run_length (has_key_below depth k) (x ∷ after) = ap (λ p. option_map_or (λ key. run_length (has_key_below depth key) (x ∷ after)) p 1) here in
    let m : ℕ = run_length (has_key_below depth k) after in
    let long : first_run depth (x ∷ after) ≡ suc m = count ∙ ap (λ e. cond e (suc m) 0) own in
    let run_list : now ≡ x ∷ take m after = run_is ∙ ap (λ n. take n (x ∷ after)) long in
    let gains : GainsBranch depth k (x ∷ take m after) list new = subst (λ p. MatchOption p (new ≡ list) (λ key. GainsBranch depth key (x ∷ take m after) list new)) here
    (subst (λ r. IsStep depth r list new) run_list step) in
    found_more depth k paths x after list new gains.branch own so_far (x ∷ take m after) other
    (sym run_list ∙ run_is ∙ ap (λ n. take n (x ∷ after)) count) (other_is ∙ ap (λ n. drop n (x ∷ after)) count) gains.is gains.added

pub found_step : (depth : ℕ) (paths rest run other : List Path) (list new : List Branch) → 0 < length rest
    → run ≡ take (first_run depth rest) rest → other ≡ drop (first_run depth rest) rest → IsStep depth run list new
    → FoundTo depth paths rest list → FoundTo depth paths other new
found_step depth paths [] run other list new some run_is other_is step so_far = absurd (omega (arith, some))
found_step depth paths (x ∷ after) run other list new some run_is other_is step so_far =
    found_next depth paths x after run other list new (slice_get x.keys.now depth) refl run_is other_is step so_far
