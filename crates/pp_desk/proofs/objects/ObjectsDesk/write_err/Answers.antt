use Rattle.pp_desk.proofs.Leaves.{err_written, err_failed, err_wanted}
use Rattle.pp_desk.proofs.objects.ObjectsDesk.write_err.Goals as goal

pub returns-in-Ok : goal.returns-in-Ok
returns-in-Ok g c = err_written _ _ _ _ c.in-Ok.ensures.bytes c.in-Ok.ensures.cause.later

pub returns-in-Err-Failed : goal.returns-in-Err-Failed
returns-in-Err-Failed g c = let e = rw c.in-Err-Failed.field-0-is at c.in-Err-Failed.ensures in err_failed _ _ _ _ _ e.bytes e.cause.later (e.cause.rose tt)

pub returns-in-Err-Memory : goal.returns-in-Err-Memory
returns-in-Err-Memory g c = let e = rw c.in-Err-Memory.field-0-is at c.in-Err-Memory.ensures in err_wanted _ _ _ _ _ e.bytes e.cause.later
