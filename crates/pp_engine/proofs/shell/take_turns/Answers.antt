use Rattle.std.proofs.Common.{arith}
use Rattle.std.proofs.lemmas.Result.{err_from_is_err_and}
use Rattle.pp_engine.proofs.Turning.{turns_go, turns_end, turns_stop, turns_spent}
use Rattle.pp_engine.proofs.shell.take_turns.Goals as goal

pub returns-in_err-cause : goal.returns-in_err-cause
returns-in_err-cause g c =
    let p = err_from_is_err_and c.from_residual.result c.from_residual.ensures.1 in
    rw (p.1, p.2) (turns_stop _ _ _ _ _ _ _ _ _ _ (omega arith) c.turns.invariant c.in_err-cause.ensures)

pub returns-in-Some : goal.returns-in-Some
returns-in-Some g c = turns_end _ _ _ _ _ _ _ _ _ _ _ _ (omega arith) c.in-Some.is c.turns.invariant c.in_ok-cause.ensures

pub turns-preserved : goal.turns-preserved
turns-preserved g c = turns_go _ _ _ _ _ _ _ _ _ _ _ _ (omega arith) c.in_default.is c.turns.invariant c.in_ok-cause.ensures

pub returns : goal.returns
returns g c = turns_spent _ _ _ _ _ _ _ _ (omega arith) c.turns.invariant
