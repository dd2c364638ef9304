use Rattle.std.proofs.Common.{ℕ, pos, nat_abs, take, get_or, arith}
use Rattle.pp_count.specs.declared.part.KeySum.{KeySum}
use Rattle.pp_count.specs.Tally.{tally_at}
use Rattle.pp_count.specs.Parts.{sums_of}
use Rattle.pp_count.proofs.Joining.{joined_more, size_room, flat_bound, cum_bound}
use Rattle.pp_count.proofs.tallies.add_sums.Goals as goal

none : KeySum
none = record { key = 0; flat = pos 0; cum = pos 0 }

pub join_key-requires-clause-flat_fits : goal.join_key-requires-clause-flat_fits
unfolding none
join_key-requires-clause-flat_fits c =
    let k : ℕ = (get_or c.args.sums.now c.loop-sum.sum-index none).key in
    rw (c.loop-sum.invariant k)
    (omega (
      arith,
      c.requires.flat_fits k,
      flat_bound (tally_at c.args.tallies.now k) (sums_of k (take c.loop-sum.sum-index c.args.sums.now)),
      size_room (λ (e : KeySum). nat_abs e.flat) c.args.sums.now c.loop-sum.sum-index none c.loop-sum-test.true,
    ))

pub join_key-requires-clause-cum_fits : goal.join_key-requires-clause-cum_fits
unfolding none
join_key-requires-clause-cum_fits c =
    let k : ℕ = (get_or c.args.sums.now c.loop-sum.sum-index none).key in
    rw (c.loop-sum.invariant k)
    (omega (
      arith,
      c.requires.cum_fits k,
      cum_bound (tally_at c.args.tallies.now k) (sums_of k (take c.loop-sum.sum-index c.args.sums.now)),
      size_room (λ (e : KeySum). nat_abs e.cum) c.args.sums.now c.loop-sum.sum-index none c.loop-sum-test.true,
    ))

pub loop-sum-preserved : goal.loop-sum-preserved
unfolding none
loop-sum-preserved c =
    joined_more (tally_at c.loop-sum.tallies) (tally_at c.args.tallies.now) (tally_at c.join_key.new.tallies) c.args.sums.now c.loop-sum.sum-index none c.loop-sum-test.true
    c.loop-sum.invariant c.in_ok-join_key.ensures.key c.in_ok-join_key.ensures.others
