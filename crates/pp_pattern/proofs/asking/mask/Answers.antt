use Rattle.pp_pattern.proofs.MaskLemmas.{mask_clears, mask_keeps}
use Rattle.std.proofs.Common.{sym, ◌∙◌}
use Rattle.pp_pattern.proofs.asking.mask.Goals as goal
use Rattle.pp_pattern.proofs.asking.mask.Goals.{then-len-eq0, else-len-eq0}

-- one more is masked
pub loop-i-preserved : goal.loop-i-preserved
loop-i-preserved c = elim c.if-len-eq0.branch [
  | then-len-eq0 w ↦
      mask_clears c.args.subjects.now c.args.found.now c.loop-i.found _ c.loop-i.i c.index-subjects-i.result c.loop-i-test.true c.index-subjects-i.is
      (sym c.len.ensures ∙ w.if-len-eq0.true) c.loop-i.invariant (w.found-is ∙ w.clear.ensures)
  | else-len-eq0 w ↦
      mask_keeps c.args.subjects.now c.args.found.now c.loop-i.found _ c.loop-i.i c.index-subjects-i.result c.loop-i-test.true c.index-subjects-i.is
      (λ none. w.if-len-eq0.false (c.len.ensures ∙ none)) c.loop-i.invariant w.found-is
]
