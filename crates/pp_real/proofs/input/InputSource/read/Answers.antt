use Rattle.std.proofs.Common.{arith}
use Rattle.pp_real.proofs.KnownLemmas.{some, consumed, none_given, kept, at_end}
use Rattle.pp_real.proofs.input.InputSource.read.Goals as goal

-- no bytes came, so none is left
pub returns-in-Ok-eq0-clause-bytes : goal.returns-in-Ok-eq0-clause-bytes
returns-in-Ok-eq0-clause-bytes g c =
    let same = none_given _ _ c.in-Ok-eq0.field-0 _ c.in-Ok-eq0.field-0-test (g.met.R.SteadyRead.steady_read _ _) c.in-Ok-eq0.ensures.bytes.0 in
    (same, at_end _ _ same (c.in-Ok-eq0.ensures.bytes.1 c.in-Ok-eq0.field-0-test (omega (arith, c.requires, c.read.auto.buf))))

-- the bytes that came are the next
pub returns-in-Ok-clause-bytes : goal.returns-in-Ok-clause-bytes
returns-in-Ok-clause-bytes g c =
    (some c.in-Ok.count c.in-Ok.count-test.1, c.in-Ok.ensures.bound.0, consumed _ _ _ (g.met.R.SteadyRead.steady_read _ _) c.in-Ok.ensures.bytes.0)

-- a reader that failed lost nothing
pub returns-in-Err-clause-bytes : goal.returns-in-Err-clause-bytes
returns-in-Err-clause-bytes g c = kept _ _ (g.met.R.SteadyRead.steady_read _ _) c.in-Err.ensures.bytes
