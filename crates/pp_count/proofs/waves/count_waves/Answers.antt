use Rattle.std.proofs.Common.{◌≡◌, ◌+◌, ◌*◌, min, subst, arith}
use Rattle.std.proofs.lemmas.Grind.{div_ceil_times}
use Rattle.pp_count.specs.declared.waves.TheConstants.{WAVE}
use Rattle.pp_count.specs.Scope.{samples_in_scope, AreCounted}
use Rattle.pp_count.proofs.Pieces.{front_of}
use Rattle.pp_count.proofs.waves.count_waves.Goals as goal

pub count_wave-requires-after_bounds : goal.count_wave-requires-after_bounds
count_wave-requires-after_bounds g c = λ _ _.
    let started : min (c.loop-wave.wave * WAVE) c.pieces_of-pieces.result ≡ c.loop-wave.wave * WAVE =
    omega (arith, c.loop-wave-test.true, c.div_ceil-wave-end.ensures, div_ceil_times c.pieces_of-pieces.result WAVE (omega arith)) in
    subst (λ n. AreCounted c.args.scope.now (front_of (samples_in_scope c.args.scope.now) n) c.loop-wave.sofar) started c.loop-wave.invariant

pub loop-wave-preserved : goal.loop-wave-preserved
loop-wave-preserved g c =
    let ended : c.loop-wave.wave * WAVE + c.min.result ≡ min ((c.loop-wave.wave + 1) * WAVE) c.pieces_of-pieces.result =
    omega (arith, c.min.ensures, c.loop-wave-test.true, c.div_ceil-wave-end.ensures, div_ceil_times c.pieces_of-pieces.result WAVE (omega arith)) in
    subst (λ n. AreCounted c.args.scope.now (front_of (samples_in_scope c.args.scope.now) n) c.count_wave.new.sofar) ended c.in_ok-count_wave.ensures

pub loop-wave-init : goal.loop-wave-init
loop-wave-init g c =
    let first : 0 ≡ min (0 * WAVE) c.pieces_of-pieces.result = omega arith in
    subst (λ n. AreCounted c.args.scope.now (front_of (samples_in_scope c.args.scope.now) n) c.args.sofar.now) first c.requires.none
