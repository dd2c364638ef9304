use Rattle.std.proofs.Common.{◌≡◌, suc, ◌+◌, ◌-◌, ap, length, arith}
use Rattle.pp_wire.proofs.Shortest.{last_group, next_group, all_groups}
use Rattle.pp_wire.proofs.varint.varint_len.Goals as goal

pub returns-then-rest-lt128-clause-len : goal.returns-then-rest-lt128-clause-len
returns-then-rest-lt128-clause-len c =
    let one = ap length (last_group (10 - c.loop-len.len) c.loop-len.rest c.if-rest-lt128.true) in
    omega (arith, one, c.loop-len.invariant)

pub loop-len-preserved : goal.loop-len-preserved
loop-len-preserved c =
    let less : 10 - c.loop-len.len ≡ suc (10 - (c.loop-len.len + 1)) = omega arith in
    let one = ap length (next_group (10 - c.loop-len.len) (10 - (c.loop-len.len + 1)) c.loop-len.rest less c.if-rest-lt128.false) in
    omega (arith, one, c.loop-len.invariant)

pub returns-clause-len : goal.returns-clause-len
returns-clause-len c =
    let ten : c.loop-len.len ≡ 10 = omega arith in
    let one = ap length (all_groups c.loop-len.rest) in
    let so_far = rw ten at c.loop-len.invariant in
    omega (arith, one, so_far)
