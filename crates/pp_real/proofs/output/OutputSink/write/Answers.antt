use Rattle.pp_real.proofs.KnownLemmas.{appended, none_taken, kept}
use Rattle.pp_real.proofs.output.OutputSink.write.Goals as goal
use Rattle.pp_real.proofs.output.OutputSink.write.Goals.{in_default-via-in-Ok+else-count-gt0, in_default-via-in-Err+else-eq}

-- the bytes that were taken stand at the end
pub returns-in-Ok-clause-bytes : goal.returns-in-Ok-clause-bytes
returns-in-Ok-clause-bytes g c = (c.if-count-gt0.true, c.in-Ok.ensures.bound, appended _ _ _ (g.met.W.SteadyWrite.steady_write _ _) c.in-Ok.ensures.bytes)

-- a writer that failed got nothing
pub returns-in-Err-clause-bytes : goal.returns-in-Err-clause-bytes
returns-in-Err-clause-bytes g c = kept _ _ (g.met.W.SteadyWrite.steady_write _ _) c.in-Err.ensures.bytes

-- nor did one that took nothing
pub returns-in_default-clause-bytes : goal.returns-in_default-clause-bytes
returns-in_default-clause-bytes g c = elim c.in_default.branch [
  | in_default-via-in-Ok+else-count-gt0 w ↦ none_taken _ _ w.in-Ok.count _ w.if-count-gt0.false (g.met.W.SteadyWrite.steady_write _ _) w.in-Ok.ensures.bytes
  | in_default-via-in-Err+else-eq w ↦ kept _ _ (g.met.W.SteadyWrite.steady_write _ _) w.in-Err.ensures.bytes
]
