use Rattle.std.proofs.Common.{◌++◌, ℕ, List, ap, sym, length, ◌∙◌, arith}
use Rattle.std.proofs.lemmas.List.{append-nil}
use Rattle.pp_samples.specs.Tracing.{traces_text_at}
use Rattle.pp_samples.proofs.Waves.{pieces_from, piece_more}
use Rattle.pp_samples.proofs.tracing.put_wave.Goals as goal

pub loop-text-init : goal.loop-text-init
loop-text-init g c = λ f finds. sym (append-nil c.args.lines.now)

pub loop-text-preserved : goal.loop-text-preserved
loop-text-preserved g c = λ f finds.
    piece_more c.args.job.now f finds c.in_ok-texts.texts c.as_slice-text-items.result.now c.loop-text.text-index c.text-item.result c.args.lines.now c.loop-text.lines c.extend.new.self
    c.in_ok-texts.ensures c.as_slice-text-items.ensures c.loop-text-test.true c.text-item.is (c.loop-text.invariant f finds)
    (c.in_ok-extend.ensures.ok ∙ ap (λ (text : List ℕ). c.loop-text.lines ++ text) c.as_slice.ensures)

pub returns : goal.returns
returns g c = λ f finds.
    c.loop-text.invariant f finds
    ∙ ap (λ (n : ℕ). c.args.lines.now ++ traces_text_at c.args.job.now.traces f (pieces_from c.args.job.now.kept.now c.args.job.now.first n))
    (omega (arith, c.loop-text-test.false, c.loop-text.auto.text-index-end, ap length c.as_slice-text-items.ensures, c.in_ok-texts.ensures.many))
