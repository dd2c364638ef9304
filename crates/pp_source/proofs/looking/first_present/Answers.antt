use Rattle.std.proofs.Common.{sym, ◌∙◌, arith}
use Rattle.std.proofs.lemmas.Result.{err_from_is_err_and}
use Rattle.pp_source.proofs.LookLemmas.{look_goes, look_finds, look_stops, look_ends}
use Rattle.pp_source.proofs.looking.first_present.Goals as goal

-- the read was stopped
pub returns-in_err-content : goal.returns-in_err-content
returns-in_err-content g c =
    let p = err_from_is_err_and c.from_residual.result c.from_residual.ensures.1 in
    rw (p.1, p.2) (look_stops c.args.paths.now c.loop-path.path-index _ _ c.loop-path.invariant _ c.path-item.result _ c.loop-path-test.true c.path-item.is c.in_err-content.ensures.went)

-- there is a file
pub returns-in-Some : goal.returns-in-Some
returns-in-Some g c =
    look_finds c.args.paths.now c.loop-path.path-index _ _ c.loop-path.invariant _ c.path-item.result _ _ c.loop-path-test.true c.path-item.is c.in_ok-content.ensures.went (sym c.source_in.ensures ∙ c.in-Some.is)

-- nothing is at the path
pub loop-path-preserved : goal.loop-path-preserved
loop-path-preserved g c =
    look_goes c.args.paths.now c.loop-path.path-index _ _ c.loop-path.invariant _ c.path-item.result _ c.loop-path-test.true c.path-item.is c.in_ok-content.ensures.went (sym c.source_in.ensures ∙ c.in_default.is)

-- no path is left
pub returns : goal.returns
returns g c = look_ends c.args.paths.now c.loop-path.path-index _ _ c.loop-path.invariant (omega (arith, c.loop-path-test.false))
