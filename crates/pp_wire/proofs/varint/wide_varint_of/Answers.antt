use Rattle.pp_wire.proofs.Varints.{three_bytes}
use Rattle.pp_wire.proofs.varint.wide_varint_of.Goals as goal

pub returns-clause-read : goal.returns-clause-read
returns-clause-read c =
    three_bytes c.in-Some.first c.in-Some-first_of.second c.in-Some-first_of-2.third _
    c.in-Some-first_of-2.rest.now c.in-Some-first_of.rest.now c.in-Some.rest.now c.args.bytes.now
    c.in-Some.ensures c.in-Some-first_of.ensures c.in-Some-first_of-2.ensures c.if-first-ge128.true c.if-second-ge128.true c.if-third-lt128.true
    c.three_groups.ensures.sum c.three_groups.ensures.small
