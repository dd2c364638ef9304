use Rattle.std.proofs.Common.{◌≡◌, ◌++◌, ◌*◌, ◌+◌, ℕ, List, min, take, drop, ap, sym, ◌∙◌, arith}
use Rattle.std.proofs.lemmas.Grind.{div_ceil_times}
use Rattle.std.proofs.lemmas.List.{append-nil, take_all}
use Rattle.pp_steal.specs.declared.piece.TheConstants.{PIECE}
use Rattle.pp_samples.specs.declared.tracing.TheConstants.{WAVE}
use Rattle.pp_samples.specs.Tracing.{traces_text_at}
use Rattle.pp_samples.proofs.Waves.{wave_more}
use Rattle.pp_samples.proofs.tracing.put_all.Goals as goal

pub loop-wave-init : goal.loop-wave-init
loop-wave-init g c = λ f finds.
    let first : 0 ≡ PIECE * min (0 * WAVE) c.pieces_of-pieces.result = omega arith in
    sym (append-nil c.args.lines.now)
    ∙ ap (λ (n : ℕ). c.args.lines.now ++ traces_text_at c.args.t.now f (take n c.args.kept.now)) first

pub loop-wave-preserved : goal.loop-wave-preserved
loop-wave-preserved g c = λ f finds.
    let whole = div_ceil_times c.pieces_of-pieces.result WAVE (omega arith) in
    let started : min (c.loop-wave.wave * WAVE) c.pieces_of-pieces.result ≡ c.loop-wave.wave * WAVE =
    omega (arith, c.loop-wave-test.true, c.div_ceil-wave-end.ensures, whole) in
    let ended : c.loop-wave.wave * WAVE + c.min.result ≡ min ((c.loop-wave.wave + 1) * WAVE) c.pieces_of-pieces.result =
    omega (arith, c.min.ensures, c.loop-wave-test.true, c.div_ceil-wave-end.ensures, whole) in
    wave_more c.args.t.now f c.args.kept.now (min (c.loop-wave.wave * WAVE) c.pieces_of-pieces.result) c.min.result (min ((c.loop-wave.wave + 1) * WAVE) c.pieces_of-pieces.result)
    c.args.lines.now c.loop-wave.lines c.put_wave.new.lines (ap (λ (n : ℕ). n + c.min.result) started ∙ ended) (c.loop-wave.invariant f finds)
    (c.in_ok-put_wave.ensures f finds
    ∙ ap (λ (n : ℕ). c.loop-wave.lines ++ traces_text_at c.args.t.now f (take (PIECE * c.min.result) (drop (PIECE * n) c.args.kept.now))) (sym started))

pub returns : goal.returns
returns g c = λ f finds.
    let ended : min (c.loop-wave.wave * WAVE) c.pieces_of-pieces.result ≡ c.pieces_of-pieces.result =
    omega (arith, c.loop-wave-test.false, c.div_ceil-wave-end.ensures, div_ceil_times c.pieces_of-pieces.result WAVE (omega arith)) in
    c.loop-wave.invariant f finds
    ∙ ap (λ (numbers : List ℕ). c.args.lines.now ++ traces_text_at c.args.t.now f numbers)
    (take_all (PIECE * min (c.loop-wave.wave * WAVE) c.pieces_of-pieces.result) c.args.kept.now (omega (arith, ended, c.pieces_of-pieces.ensures.whole)))
