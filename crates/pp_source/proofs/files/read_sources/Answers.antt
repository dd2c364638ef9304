use Rattle.std.proofs.Common.{arith}
use Rattle.std.proofs.lemmas.Result.{err_from_is_err_and}
use Rattle.pp_source.proofs.ReadLemmas.{read_ends, read_goes, read_stops, read_wants}
use Rattle.pp_source.proofs.files.read_sources.Goals as goal

-- the read was stopped
pub returns-in_err-source : goal.returns-in_err-source
returns-in_err-source g c =
    let p = err_from_is_err_and c.from_residual.result c.from_residual.ensures.1 in
    rw (p.1, p.2)
    (read_stops c.args.environment.now c.args.files.now c.loop-file.file-index c.loop-file.sources _ _ _ c.loop-file.invariant _ _ _ c.loop-file-test.true c.in_err-source.ensures)

-- memory was wanting after it
pub returns-in_err-push : goal.returns-in_err-push
returns-in_err-push g c =
    let p = err_from_is_err_and c.from_residual-in_err-push.result c.from_residual-in_err-push.ensures.1 in
    rw (p.1, p.2)
    (read_wants c.args.environment.now c.args.files.now c.loop-file.file-index c.loop-file.sources _ _ _ c.loop-file.invariant _ _ c.in_ok-source.source c.loop-file-test.true c.in_ok-source.ensures)

-- one more source
pub loop-file-preserved : goal.loop-file-preserved
loop-file-preserved g c =
    read_goes c.args.environment.now c.args.files.now c.loop-file.file-index c.loop-file.sources _ _ _ c.loop-file.invariant _ _ c.in_ok-source.source c.push.new.self c.loop-file-test.true c.in_ok-source.ensures
    c.in_ok-push.ensures.ok

-- no file is left
pub returns : goal.returns
returns g c = read_ends c.args.environment.now c.args.files.now c.loop-file.file-index c.loop-file.sources _ _ _ c.loop-file.invariant (omega (arith, c.loop-file-test.false))
