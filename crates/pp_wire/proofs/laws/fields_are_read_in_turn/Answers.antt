use Rattle.std.proofs.Common.{refl}
use Rattle.pp_wire.specs.Walk.{walk_in}
use Rattle.pp_wire.proofs.Turns.{fields_end, fields_more, field_place, field_shorter, field_behind, fields_faults}
use Rattle.pp_wire.proofs.laws.fields_are_read_in_turn.Goals as goal

pub returns-clause-none : goal.returns-clause-none
unfolding walk_in
returns-clause-none c = λ base. refl

pub returns-clause-fault : goal.returns-clause-fault
returns-clause-fault c = fields_end

pub returns-clause-field : goal.returns-clause-field
returns-clause-field c = fields_more

pub returns-clause-place : goal.returns-clause-place
returns-clause-place c = field_place

pub returns-clause-shorter : goal.returns-clause-shorter
returns-clause-shorter c = field_shorter

pub returns-clause-behind : goal.returns-clause-behind
returns-clause-behind c = field_behind

pub returns-clause-no_wrong_kind : goal.returns-clause-no_wrong_kind
returns-clause-no_wrong_kind c = fields_faults
