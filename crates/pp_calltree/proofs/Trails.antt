-- The keys with which all paths of a branch begin.
use Rattle.std.proofs.Common.{◌≡◌, ℕ, zero, suc, ◌+◌, ◌<◌, ◌==◌, Bool, true, false, cond, List, [], ◌∷◌, ◌++◌, length, take, drop, get_or, All, Option, Some, None, refl, sym, ap, subst, ◌∙◌, arith, length-append}
use Rattle.std.specs.Prelude.{MatchOption}
use Rattle.std.specs.List.{slice_get}
use Rattle.std.specs.Option.{option_map_or}
use Rattle.std.proofs.lemmas.Bool.{false≢true, eq-eqb, eqb-true}
use Rattle.std.proofs.lemmas.List.Elements.{All-nil, All-cons, All-head, All-drop, All-push, All-take}
use Rattle.pp_calltree.specs.declared.branch.Branch.{Branch}
use Rattle.pp_calltree.specs.declared.path.Path.{Path}
use Rattle.pp_calltree.specs.Branches.{GainsBranch, IsStep}
use Rattle.pp_calltree.specs.Listed.{first_path, trail, BeginsWith, GoesOnFrom, IsTrailed}
use Rattle.pp_calltree.specs.Paths.{first_run, has_key_below, run_length}

-- The paths that are left begin with the keys, and the branches go on from there.
pub record TrailsTo (above : List ℕ) (rest : List Path) (list : List Branch) : Type 0 where
  pub left : All (BeginsWith above) rest
  pub on : All (GoesOnFrom above) list

pub trails_none : (above : List ℕ) (paths : List Path) (list : List Branch) → list ≡ [] → All (BeginsWith above) paths → TrailsTo above paths list
trails_none above paths list none begin = record { left = begin; on = subst (All (GoesOnFrom above)) (sym none) (All-nil (GoesOnFrom above)) }

-- one more key
begins_more : (above : List ℕ) (k : ℕ) (keys : List ℕ) → take (length above) keys ≡ above → option_map_or (λ other. other == k) (slice_get keys (length above)) false ≡ true
    → take (length (above ++ k ∷ [])) keys ≡ above ++ k ∷ []
begins_more [] k [] begin own = absurd (false≢true own)
begins_more [] k (q ∷ keys) begin own = ap (λ m. m ∷ []) (eqb-true q k own)
begins_more (a ∷ above) k [] begin own = absurd (false≢true own)
begins_more (a ∷ above) k (q ∷ keys) begin own =
    λ i. get_or (begin i) 0 0 ∷ begins_more above k keys (ap (drop 1) begin) own i

-- the items of a run pass its test
run_passes : {X : Type 0} (test : X → Bool) (xs : List X) → All (λ x. test x ≡ true) (take (run_length test xs) xs)
run_passes test [] = All-nil (λ x. test x ≡ true)
run_passes test (x ∷ xs) =
    elim (test x) as (λ b. test x ≡ b → All (λ y. test y ≡ true) (take (cond b (suc (run_length test xs)) 0) (x ∷ xs))) [
      | true ↦ λ e. All-cons (λ y. test y ≡ true) x (take (run_length test xs) xs) e (run_passes test xs)
      | false ↦ λ e. All-nil (λ y. test y ≡ true)
    ] refl

-- the branch of a run goes on
run_goes_on : (above : List ℕ) (k : ℕ) (run : List Path) (b : Branch) → 0 < length run → b.key ≡ k → b.paths.now ≡ run
    → All (λ x. has_key_below (length above) k x ≡ true) run → All (BeginsWith above) run → GoesOnFrom above b
run_goes_on above k run b some key_is paths_are own begin = record {
  some = subst (λ (ps : List Path). 0 < length ps) (sym paths_are) some;
  begin = subst (λ (ps : List Path). All (BeginsWith (above ++ b.key ∷ [])) ps) (sym paths_are)
      (subst (λ n. All (BeginsWith (above ++ n ∷ [])) run) (sym key_is)
      (λ i d here. begins_more above k (get_or run i d).keys.now (begin i d here) (own i d here)));
}

trails_next : (above : List ℕ) (x : Path) (after run other : List Path) (list new : List Branch) (o : Option ℕ) → slice_get x.keys.now (length above) ≡ o
    → run ≡ take (first_run (length above) (x ∷ after)) (x ∷ after) → other ≡ drop (first_run (length above) (x ∷ after)) (x ∷ after) → IsStep (length above) run list new
    → TrailsTo above (x ∷ after) list → All (GoesOnFrom above) new
trails_next above x after run other list new None here run_is other_is step so_far =
    let one : first_run (length above) (x ∷ after) ≡ 1 = ap (λ p. option_map_or (λ key. run_length (has_key_below (length above) key) (x ∷ after)) p 1) here in
    let same : new ≡ list = subst (λ p. MatchOption p (new ≡ list) (λ key. GainsBranch (length above) key (x ∷ []) list new)) here
    (subst (λ r. IsStep (length above) r list new) (run_is ∙ ap (λ n. take n (x ∷ after)) one) step) in
    subst (All (GoesOnFrom above)) (sym same) so_far.on
trails_next above x after run other list new (Some k) here run_is other_is step so_far =
    let test = has_key_below (length above) k in
    let own : test x ≡ true = ap (λ p. option_map_or (λ q. q == k) p false) here ∙ eq-eqb k k refl in
    let count : first_run (length above) (x ∷ after) ≡ run_length test (x ∷ after) = ap (λ p. option_map_or (λ key. run_length (has_key_below (length above) key) (x ∷ after)) p 1) here in
    let m : ℕ = run_length test after in
    let long : run_length test (x ∷ after) ≡ suc m = ap (λ e. cond e (suc m) 0) own in
    let run_list : run ≡ x ∷ take m after = run_is ∙ ap (λ n. take n (x ∷ after)) (count ∙ long) in
    let gains : GainsBranch (length above) k (x ∷ take m after) list new = subst (λ p. MatchOption p (new ≡ list) (λ key. GainsBranch (length above) key (x ∷ take m after) list new)) here
    (subst (λ r. IsStep (length above) r list new) run_list step) in
    subst (All (GoesOnFrom above)) (sym gains.added) (All-push (GoesOnFrom above) list gains.branch so_far.on
    (run_goes_on above k (x ∷ take m after) gains.branch (omega arith) gains.is.key_is gains.is.paths_are
    (subst (λ n. All (λ y. test y ≡ true) (take n (x ∷ after))) long (run_passes test (x ∷ after)))
    (All-take (BeginsWith above) (suc m) (x ∷ after) so_far.left)))

-- one more run is passed
pub trails_step : (above : List ℕ) (depth : ℕ) (rest run other : List Path) (list new : List Branch) → length above ≡ depth → 0 < length rest
    → run ≡ take (first_run depth rest) rest → other ≡ drop (first_run depth rest) rest → IsStep depth run list new
    → TrailsTo above rest list → TrailsTo above other new
trails_step above depth [] run other list new deep some run_is other_is step so_far = absurd (omega (arith, some))
trails_step above depth (x ∷ after) run other list new deep some run_is other_is step so_far = record {
  left = subst (All (BeginsWith above)) (sym other_is) (All-drop (BeginsWith above) (first_run depth (x ∷ after)) (x ∷ after) so_far.left);
  on = trails_next above x after run other list new (slice_get x.keys.now (length above)) refl
      (run_is ∙ ap (λ n. take (first_run n (x ∷ after)) (x ∷ after)) (sym deep)) (other_is ∙ ap (λ n. drop (first_run n (x ∷ after)) (x ∷ after)) (sym deep))
      (subst (λ n. IsStep n run list new) (sym deep) step) so_far;
}

-- the first path of those that begin with the keys
first_begins : (above : List ℕ) (paths : List Path) → 0 < length paths → All (BeginsWith above) paths → take (length above) (first_path paths) ≡ above
first_begins above [] some begin = absurd (omega (arith, some))
first_begins above (x ∷ paths) some begin = All-head (BeginsWith above) x paths begin

-- the trail of a branch that goes on
pub trail_is : (above : List ℕ) (b : Branch) → b.depth ≡ length above → GoesOnFrom above b → trail b ≡ above ++ b.key ∷ []
trail_is above b deep on =
    let long : b.depth + 1 ≡ length (above ++ b.key ∷ []) = omega (arith, deep, length-append above (b.key ∷ [])) in
    ap (λ n. take n (first_path b.paths.now)) long ∙ first_begins (above ++ b.key ∷ []) b.paths.now on.some on.begin

pub is_trailed : (n : ℕ) (above : List ℕ) (b : Branch) → b.depth ≡ length above → GoesOnFrom above b → All (λ k. k < n) above → b.key < n → IsTrailed n b
is_trailed n above b deep on below own =
    let is : trail b ≡ above ++ b.key ∷ [] = trail_is above b deep on in
    record {
      long = omega (arith, ap length is, deep, length-append above (b.key ∷ []));
      begin = subst (λ (ks : List ℕ). All (BeginsWith ks) b.paths.now) (sym is) on.begin;
      below = subst (All (λ k. k < n)) (sym is) (All-push (λ k. k < n) above b.key below own);
    }

-- paths of which the first has keys
pub trail_some : (b : Branch) → length (trail b) ≡ b.depth + 1 → 0 < length b.paths.now
trail_some b long = by b.paths.now long where
  nothing : (n : ℕ) → length (take {A = ℕ} n []) ≡ 0
  nothing zero = refl
  nothing (suc n) = refl

  by : (paths : List Path) → length (take (b.depth + 1) (first_path paths)) ≡ b.depth + 1 → 0 < length paths
  by [] none = absurd (omega (arith, none, nothing (b.depth + 1)))
  by (x ∷ paths) long = omega arith

pub first_is : (paths : List Path) (d : Path) → 0 < length paths → (get_or paths 0 d).keys.now ≡ first_path paths
first_is [] d some = absurd (omega (arith, some))
first_is (x ∷ paths) d some = refl

-- the path of a branch that has one alone
pub only_path : (paths : List Path) (d : Path) → length paths ≡ 1 → paths ≡ get_or paths 0 d ∷ []
only_path [] d one = absurd (omega (arith, one))
only_path (x ∷ []) d one = refl
only_path (x ∷ y ∷ paths) d one = absurd (omega (arith, one))
