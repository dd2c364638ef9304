use Rattle.std.proofs.Common.{length, subst, arith, ap}
use Rattle.pp_count.specs.Scope.{samples_in_scope, AreCounted}
use Rattle.pp_count.proofs.Pieces.{front_of, IsNext, wave_room, wave_more}
use Rattle.pp_count.proofs.waves.count_wave.Given as given
use Rattle.pp_count.proofs.waves.count_wave.Goals.{After-part-item}
use Rattle.pp_count.proofs.waves.count_wave.Goals as goal

-- the part that is added is that of the next piece
next : (g : given.Over) (c : goal.After-part-item g) → IsNext c.args.job.now c.in_ok-parts.parts c.as_slice-part-items.result.now c.loop-part.part-index c.loop-part.sofar c.part-item.result
next g c = record {
  outcomes_are = c.in_ok-parts.ensures;
  items_are = c.as_slice-part-items.ensures;
  here = c.loop-part-test.true;
  part_is = c.part-item.is;
  before = c.loop-part.invariant;
}

pub add-requires-clause-flat_fits : goal.add-requires-clause-flat_fits
add-requires-clause-flat_fits g c = λ k.
    (wave_room c.args.job.now c.in_ok-parts.parts c.as_slice-part-items.result.now c.loop-part.part-index c.loop-part.sofar c.part-item.result (next g (goal.at.add-requires-clause-flat_fits g c).After-part-item) k).flat

pub add-requires-clause-cum_fits : goal.add-requires-clause-cum_fits
add-requires-clause-cum_fits g c = λ k.
    (wave_room c.args.job.now c.in_ok-parts.parts c.as_slice-part-items.result.now c.loop-part.part-index c.loop-part.sofar c.part-item.result (next g (goal.at.add-requires-clause-cum_fits g c).After-part-item) k).cum

pub loop-part-preserved : goal.loop-part-preserved
loop-part-preserved g c =
    wave_more c.args.job.now c.in_ok-parts.parts c.as_slice-part-items.result.now c.loop-part.part-index c.loop-part.sofar c.add.new.self c.part-item.result
    (next g (goal.at.loop-part-preserved g c).After-part-item) c.in_ok-add.ensures.kept c.in_ok-add.ensures.tallies c.in_ok-add.ensures.matched c.in_ok-add.ensures.totals

pub returns : goal.returns
returns g c =
    subst (λ n. AreCounted c.args.job.now.scope (front_of (samples_in_scope c.args.job.now.scope) n) c.loop-part.sofar)
    (omega (arith, c.loop-part-test.false, c.loop-part.auto.part-index-end, ap length c.as_slice-part-items.ensures, c.in_ok-parts.ensures.many)) c.loop-part.invariant
