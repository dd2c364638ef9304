use Rattle.std.proofs.Common.{sym, subst, arith}
use Rattle.std.proofs.lemmas.List.Elements.{All-push}
use Rattle.pp_samples.specs.Places.{IsEven, EachEven}
use Rattle.pp_samples.specs.Tables.{made}
use Rattle.pp_samples.proofs.key_table.make_room.Goals as goal

pub returns-clause-even : goal.returns-clause-even
returns-clause-even c each =
    subst EachEven (sym c.in_ok-push.ensures.items) (All-push IsEven c.args.tables.now.items c.in_ok-empty.empty each c.in_ok-empty.ensures.even)

pub returns-clause-room : goal.returns-clause-room
returns-clause-room c = made c.in_ok-empty.empty c.in_ok-empty.ensures.table (omega (arith, c.if-place-len.false, c.len.ensures)) c.in_ok-push.ensures.items
