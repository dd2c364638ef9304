use Rattle.std.proofs.Common.{arith}
use Rattle.pp_wire.proofs.Varints.{starts_varint, goes_on, is_last, ends_early, is_long}
use Rattle.pp_wire.proofs.varint.long_varint_of.Goals as goal

pub loop-init : goal.loop-init
loop-init c = record { so_far = starts_varint c.args.bytes.now; taken = omega arith }

pub returns-in_default-clause-read : goal.returns-in_default-clause-read
returns-in_default-clause-read c = ends_early c.loop.value c.loop.scale c.loop.counter c.loop.rest.now _ c.loop-test.true c.in_default.ensures c.loop.invariant.so_far

pub returns-then-group-lt128-clause-read : goal.returns-then-group-lt128-clause-read
returns-then-group-lt128-clause-read c =
    rw c.from.ensures (is_last c.loop.value c.loop.scale c.loop.counter c.in-Some.group c.in-Some.after.now c.loop.rest.now _ c.loop-test.true c.if-group-lt128.true c.in-Some.ensures c.loop.invariant.so_far)

pub loop-preserved : goal.loop-preserved
loop-preserved c = record {
  so_far = rw c.from-in-loop.ensures (goes_on c.loop.value c.loop.scale c.loop.counter c.in-Some.group c.in-Some.after.now c.loop.rest.now _ c.loop-test.true c.if-group-lt128.false c.in-Some.ensures c.loop.invariant.so_far);
  taken = grind (arith, c.in-Some.ensures);
}

pub returns-clause-read : goal.returns-clause-read
returns-clause-read c = is_long c.loop.value c.loop.scale c.loop.counter c.loop.rest.now _ c.loop-test.false c.loop.invariant.so_far
