use Rattle.pp_wire.proofs.Varints.{two_bytes}
use Rattle.pp_wire.proofs.varint.short_varint_of.Goals as goal

pub returns-then-second-lt128-clause-read : goal.returns-then-second-lt128-clause-read
returns-then-second-lt128-clause-read c =
    two_bytes c.in_ok-first.first c.in_ok-second.second _ c.in_ok-second.rest.now c.in_ok-first.rest.now c.args.bytes.now
    c.in_ok-first.ensures c.in_ok-second.ensures c.if-first-lt128.false c.if-second-lt128.true c.two_groups.ensures.sum
    c.two_groups.ensures.small
