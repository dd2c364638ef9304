use Rattle.pp_check.proofs.SoundLemmas.{asked_ahead, not_asked}
use Rattle.pp_check.proofs.lanes.ask_on.Goals as goal

pub returns-in-Ok : goal.returns-in-Ok
returns-in-Ok g c = asked_ahead c.args.p.now c.ask_samples.result c.in-Ok.ensures.faults c.ask_samples.ensures

pub returns-in-Err-Fault : goal.returns-in-Err-Fault
returns-in-Err-Fault g c =
    not_asked c.args.p.now c.unsound.result c.in-Err-Fault.field-0-0 (rw c.in-Err-Fault.field-0-is at c.in-Err-Fault.ensures.faults) c.unsound.ensures
