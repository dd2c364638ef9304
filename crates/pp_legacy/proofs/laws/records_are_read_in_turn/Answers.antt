use Rattle.pp_legacy.proofs.Turns.{turn_fails, turn_ends, turn_goes_on, entry_behind}
use Rattle.pp_legacy.proofs.laws.records_are_read_in_turn.Goals as goal

pub returns-clause-fault : goal.returns-clause-fault
returns-clause-fault c = turn_fails

pub returns-clause-trailer : goal.returns-clause-trailer
returns-clause-trailer c = turn_ends

pub returns-clause-entry : goal.returns-clause-entry
returns-clause-entry c = turn_goes_on

pub returns-clause-behind : goal.returns-clause-behind
returns-clause-behind c = λ ws nanos at next entry is. (entry_behind ws nanos at next entry is).0
