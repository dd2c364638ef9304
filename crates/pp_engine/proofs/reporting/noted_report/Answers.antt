use Rattle.pp_engine.proofs.Serving.{refused_early}
use Rattle.pp_engine.proofs.reporting.noted_report.Goals as goal

-- it is refused before its notes are known
pub returns-in-Err : goal.returns-in-Err
returns-in-Err g c = refused_early _ _ _ _ _ _ _ _ (rw c.in-Err.is at c.in_ok-refusal.ensures.went)
