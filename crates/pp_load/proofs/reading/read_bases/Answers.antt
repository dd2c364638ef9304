use Rattle.std.proofs.Common.{arith}
use Rattle.std.proofs.lemmas.Result.{err_from_is_err_and}
use Rattle.pp_load.specs.Load.{read_base}
use Rattle.pp_load.proofs.ReadLemmas.{read_goes, read_halts, read_ends}
use Rattle.pp_load.proofs.reading.read_bases.Goals as goal

-- one of them ended it
pub returns-in_err-read-clause-went : goal.returns-in_err-read-clause-went
returns-in_err-read-clause-went g c =
    let p = err_from_is_err_and c.from_residual.result c.from_residual.ensures.1 in
    rw (p.1, p.2)
    (read_halts read_base c.args.bases.now c.loop-path.path-index c.loop-path.read _ _ c.args.read c.loop-path.invariant.on_way _ c.path-item.result _ c.loop-path-test.true c.path-item.is c.in_err-read.ensures.went)

-- one more is read
pub loop-path-preserved : goal.loop-path-preserved
loop-path-preserved g c = record {
  on_way = read_goes read_base c.args.bases.now c.loop-path.path-index c.loop-path.read _ _ c.args.read c.loop-path.invariant.on_way _ c.path-item.result c.in_ok-read.read c.loop-path-test.true c.path-item.is c.in_ok-read.ensures.went;
  few = c.in_ok-read.ensures.few;
  all = omega (arith, c.in_ok-read.ensures.all, c.loop-path.invariant.all);
}

-- none is left
pub returns-clause-went : goal.returns-clause-went
returns-clause-went g c =
    read_ends read_base c.args.bases.now c.loop-path.path-index c.loop-path.read _ _ c.args.read c.loop-path.invariant.on_way (omega (arith, c.loop-path-test.false))
