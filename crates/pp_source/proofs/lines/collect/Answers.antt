use Rattle.std.proofs.Common.{nat_lt, refl, sym, ap, ◌∙◌, arith}
use Rattle.std.proofs.lemmas.Bool.{le-ltb, lt-ltb}
use Rattle.pp_count.specs.declared.tally.Tally.{Tally}
use Rattle.pp_source.proofs.Finding.{collected_more, collected_same}
use Rattle.pp_source.proofs.lines.collect.Goals.{then-tally_at-gt0+in_ok-push, else-tally_at-gt0}
use Rattle.pp_source.proofs.lines.collect.Goals as goal

pub loop-key-preserved : goal.loop-key-preserved
loop-key-preserved c = elim c.if-tally_at-gt0.branch [
  | then-tally_at-gt0+in_ok-push w ↦
      rw (w.found-is, w.in_ok-push.ensures.items)
      (collected_more c.args.survey.now.l.now.profile c.args.survey.now.v.now.own c.args.lines.now c.as_slice-key-items.result.now c.loop-key.key-index _ c.loop-key.found.items
      c.as_slice-key-items.ensures.keys c.loop-key-test.true c.loop-key.invariant _ c.get-p.result.now c.requires
      (ap (λ (t : Tally). nat_lt 0 t.last) (sym c.tally_at.ensures) ∙ lt-ltb 0 _ (omega (arith, w.if-tally_at-gt0.true))) refl c.get-p.ensures.same w.texts_of.ensures)
  | else-tally_at-gt0 w ↦
      rw w.found-is
      (collected_same c.args.survey.now.l.now.profile c.args.survey.now.v.now.own c.args.lines.now c.as_slice-key-items.result.now c.loop-key.key-index _ c.loop-key.found.items
      c.as_slice-key-items.ensures.keys c.loop-key-test.true c.loop-key.invariant
      (ap (λ (t : Tally). nat_lt 0 t.last) (sym c.tally_at.ensures) ∙ le-ltb 0 _ (omega (arith, w.if-tally_at-gt0.false))))
]
