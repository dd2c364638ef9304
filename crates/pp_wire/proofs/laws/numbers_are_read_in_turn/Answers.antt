use Rattle.std.proofs.Common.{refl}
use Rattle.pp_wire.specs.Walk.{walk_in}
use Rattle.pp_wire.proofs.Turns.{numbers_end, numbers_more}
use Rattle.pp_wire.proofs.laws.numbers_are_read_in_turn.Goals as goal

pub returns-clause-none : goal.returns-clause-none
unfolding walk_in
returns-clause-none c = λ at. refl

pub returns-clause-fault : goal.returns-clause-fault
returns-clause-fault c = numbers_end

pub returns-clause-number : goal.returns-clause-number
returns-clause-number c = numbers_more
