use Rattle.std.proofs.Common.{refl}
use Rattle.pp_desk.proofs.Leaves.{written, locked_out, write_failed, write_wanted, leaves_part}
use Rattle.pp_desk.proofs.objects.ObjectsDesk.write_file.Goals as goal

pub returns-in-Written : goal.returns-in-Written
returns-in-Written g c = let e = c.in-Written.ensures in written _ _ _ _ _ _ _ e.answer.0 e.locked e.reads e.answer.1 e.later

pub returns-in-Locked : goal.returns-in-Locked
returns-in-Locked g c = let e = c.in-Locked.ensures in locked_out _ _ _ _ _ _ _ e.answer.0 e.locked e.reads e.answer.1 e.later

pub returns-in-Failed : goal.returns-in-Failed
returns-in-Failed g c = let e = c.in-Failed.ensures in write_failed _ _ _ _ _ _ _ (leaves_part _ _ _ _ _ _ e.locked e.reads e.answer.0 e.answer.1) e.later (e.failed refl)

pub returns-in-Memory : goal.returns-in-Memory
returns-in-Memory g c = let e = c.in-Memory.ensures in write_wanted _ _ _ _ _ _ _ e.answer e.locked e.reads e.later
