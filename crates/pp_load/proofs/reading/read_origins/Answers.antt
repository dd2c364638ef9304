use Rattle.std.proofs.Common.{arith}
use Rattle.std.proofs.lemmas.Result.{err_from_is_err_and}
use Rattle.pp_load.specs.Load.{read_next}
use Rattle.pp_load.proofs.ReadLemmas.{read_goes, read_halts, read_ends}
use Rattle.pp_load.proofs.reading.read_origins.Goals as goal

-- one of them ended it
pub returns-in_err-read-clause-went : goal.returns-in_err-read-clause-went
returns-in_err-read-clause-went g c =
    let p = err_from_is_err_and c.from_residual.result c.from_residual.ensures.1 in
    rw (p.1, p.2)
    (read_halts read_next c.args.origins.now c.loop-origin.origin-index c.loop-origin.read _ _ c.args.read c.loop-origin.invariant.on_way _ c.origin-item.result _ c.loop-origin-test.true c.origin-item.is c.in_err-read.ensures.went)

-- one more is read
pub loop-origin-preserved : goal.loop-origin-preserved
loop-origin-preserved g c = record {
  on_way = read_goes read_next c.args.origins.now c.loop-origin.origin-index c.loop-origin.read _ _ c.args.read c.loop-origin.invariant.on_way _ c.origin-item.result c.in_ok-read.read c.loop-origin-test.true c.origin-item.is c.in_ok-read.ensures.went;
  few = c.in_ok-read.ensures.few;
  all = omega (arith, c.in_ok-read.ensures.all, c.loop-origin.invariant.all);
}

-- none is left
pub returns-clause-went : goal.returns-clause-went
returns-clause-went g c =
    read_ends read_next c.args.origins.now c.loop-origin.origin-index c.loop-origin.read _ _ c.args.read c.loop-origin.invariant.on_way (omega (arith, c.loop-origin-test.false))
