use Rattle.std.proofs.Common.{◌++◌, ◌+◌, ◌<◌, length, drop, subst, Some, None, ℕ, Option, sym, ap, ◌∙◌, append_assoc}
use Rattle.std.specs.List.{filter, filter_map}
use Rattle.std.specs.Option.{ForSome}
use Rattle.pp_count.specs.Column.{first_else}
use Rattle.pp_count.specs.Edges.{has_mark, pair_between, pairs_over, pair_place}
use Rattle.pp_count.proofs.Paired.{key_paired}
use Rattle.pp_count.proofs.pairs.gather_pairs.Goals as goal

first_below : (n : ℕ) (a b : Option ℕ) → ForSome a (λ q. q < n) → ForSome b (λ q. q < n) → ForSome (first_else a b) (λ q. q < n)
first_below n None b in_a in_b = in_b
first_below n (Some a) b in_a in_b = in_a

pub push_between-requires-clause-caller : goal.push_between-requires-clause-caller
push_between-requires-clause-caller c = λ q is. rw c.as_slice-marked.ensures (c.requires.below _ q (sym c.pair_place-place.ensures ∙ is))

pub push_between-requires-clause-callee : goal.push_between-requires-clause-callee
push_between-requires-clause-callee c = rw c.as_slice-marked.ensures c.loop-key.invariant.1

pub loop-key-preserved : goal.loop-key-preserved
loop-key-preserved c =
    let over = c.args.over.now in
    let pushed = rw c.as_slice-marked.ensures at c.in_ok-push_between.ensures in (
      c.loop-key.invariant.0
          ∙ ap (λ xs. c.loop-key.pairs.items ++ xs)
          (key_paired over c.args.keys.now c.loop-key.key-index 0 c.loop-key.under c.loop-key-test.true c.pair_place-place.result (sym c.pair_place-place.ensures))
          ∙ sym (append_assoc c.loop-key.pairs.items (filter (has_mark over.marked) (pair_between (length over.marked) c.pair_place-place.result c.loop-key.under))
          (filter (has_mark over.marked) (pairs_over (length over.marked) (first_else c.pair_place-place.result c.loop-key.under) (filter_map (pair_place over) (drop (c.loop-key.key-index + 1) c.args.keys.now)))))
          ∙ (λ i. sym pushed i
          ++ filter (has_mark over.marked) (pairs_over (length over.marked) (sym c.first_else-under.ensures i) (filter_map (pair_place over) (drop (c.loop-key.key-index + 1) c.args.keys.now)))),
      subst (λ o. ForSome o (λ b. b < length over.marked)) (sym c.first_else-under.ensures)
          (first_below (length over.marked) c.pair_place-place.result c.loop-key.under (λ q is. c.requires.below _ q (sym c.pair_place-place.ensures ∙ is)) c.loop-key.invariant.1),
    )
