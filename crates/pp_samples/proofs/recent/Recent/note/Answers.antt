use Rattle.pp_samples.specs.Recent.{written}
use Rattle.std.proofs.Common.{refl}
use Rattle.pp_samples.proofs.recent.Recent.note.Goals as goal

pub returns-then-slot-len : goal.returns-then-slot-len
returns-then-slot-len c = written c.slot_of-slot.result refl
