use Rattle.std.proofs.Common.{length, subst, arith, ap}
use Rattle.pp_count.specs.Scope.{samples_in_scope}
use Rattle.pp_count.proofs.Pieces.{front_of}
use Rattle.pp_calltree.specs.Paths.{HasPaths}
use Rattle.pp_calltree.proofs.CountedPaths.{piece_more}
use Rattle.pp_calltree.proofs.gathering.gather_wave.Goals as goal

pub loop-part-preserved : goal.loop-part-preserved
loop-part-preserved g c =
    piece_more c.args.job.now c.in_ok-parts.parts c.as_slice-part-items.result.now c.loop-part.part-index c.loop-part.paths c.part-item.result c.join.new.self
    c.in_ok-parts.ensures c.as_slice-part-items.ensures c.loop-part-test.true c.part-item.is c.in_ok-join.ensures c.loop-part.invariant

pub returns : goal.returns
returns g c =
    subst (λ n. HasPaths c.args.job.now.scope (front_of (samples_in_scope c.args.job.now.scope) n) c.loop-part.paths)
    (omega (arith, c.loop-part-test.false, c.loop-part.auto.part-index-end, ap length c.as_slice-part-items.ensures, c.in_ok-parts.ensures.many)) c.loop-part.invariant
