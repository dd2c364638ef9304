use Rattle.std.proofs.Common.{◌≡◌, ℕ, ◌-◌, ◌<◌, ◌≤◌, true, false, not, length, get_or, drop, List, arith, ap, ◌∙◌, rules}
use Rattle.std.specs.List.{after_last, suffix_len}
use Rattle.std.proofs.lemmas.List.Sums.{suffix_len_is}
use Rattle.pp_base.specs.Paths.{is_slash}
use Rattle.pp_base.proofs.path.last_name.Goals as goal
use Rattle.pp_base.proofs.path.last_name.Goals.{then-loop-start-test+else-path-start-ne47, else-loop-start-test}

-- what stands from a place on stands after the last slash, where none stands from there on and one stands before it
after_slash :
    (path : List ℕ) (start : ℕ) → start ≤ length path →
    ((k : ℕ) → start ≤ k → k < length path → is_slash (get_or path k 0) ≡ false) →
    (0 < start → is_slash (get_or path (start - 1) 0) ≡ true) → drop start path ≡ after_last is_slash path
after_slash path start within none last =
    let behind : suffix_len (λ b. not (is_slash b)) path ≡ length path - start =
    suffix_len_is (λ b. not (is_slash b)) path start 0 within (λ k a b. ap not (none k a b)) (λ h. ap not (last h)) in
    ap (λ n. drop n path) (omega arith)

pub returns : goal.returns
returns c =
    let path = c.args.path.now in
    let start = c.loop-start.start in
    elim c.loop-start-test.branch [
      | then-loop-start-test+else-path-start-ne47 w ↦
          c.split_at.ensures.back ∙ after_slash path start c.loop-start.invariant.0 c.loop-start.invariant.1 (λ _. search (rules, w.if-path-start-ne47.false))
      | else-loop-start-test w ↦
          c.split_at.ensures.back ∙ after_slash path start c.loop-start.invariant.0 c.loop-start.invariant.1 (λ some. absurd (omega arith))
    ]
