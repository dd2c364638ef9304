use Rattle.std.proofs.Common.{refl, arith}
use Rattle.pp_samples.specs.Tables.{had, grew}
use Rattle.pp_samples.proofs.tag_table.make_room.Goals as goal

pub returns-then-place-len : goal.returns-then-place-len
returns-then-place-len c = had (omega (arith, c.if-place-len.true, c.len.ensures)) refl

pub returns : goal.returns
returns c = grew (omega (arith, c.if-place-len.false, c.len.ensures)) c.in_ok-push.ensures.items
