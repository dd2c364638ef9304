use Rattle.std.proofs.Common.{refl}
use Rattle.pp_desk.proofs.Leaves.{read_done, read_failed, read_wanted, is_content, is_missing, is_too_long}
use Rattle.pp_desk.proofs.objects.ObjectsDesk.read_file.Goals as goal

pub returns-in-Read-clause-went : goal.returns-in-Read-clause-went
returns-in-Read-clause-went g c = let e = c.in-Read.ensures in read_done _ _ _ _ _ _ _ _ (is_content _ _ _ _ e.answer.0 e.answer.1) e.same e.locked e.noted e.later

pub returns-in-Missing-clause-went : goal.returns-in-Missing-clause-went
returns-in-Missing-clause-went g c = let e = c.in-Missing.ensures in read_done _ _ _ _ _ _ _ _ (is_missing _ _ _ e.answer.1) e.same e.locked e.noted e.later

pub returns-in-TooLong-clause-went : goal.returns-in-TooLong-clause-went
returns-in-TooLong-clause-went g c = let e = c.in-TooLong.ensures in read_done _ _ _ _ _ _ _ _ (is_too_long _ _ _ e.answer.1) e.same e.locked e.noted e.later

pub returns-in-Failed-clause-went : goal.returns-in-Failed-clause-went
returns-in-Failed-clause-went g c = let e = c.in-Failed.ensures in read_failed _ _ _ _ _ _ _ e.same e.locked e.noted e.later (e.failed refl)

pub returns-in-Memory-clause-went : goal.returns-in-Memory-clause-went
returns-in-Memory-clause-went g c = let e = c.in-Memory.ensures in read_wanted _ _ _ _ _ _ _ e.same e.locked e.noted e.later
