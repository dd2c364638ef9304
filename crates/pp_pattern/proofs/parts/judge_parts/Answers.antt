use Rattle.std.proofs.Common.{◌∷◌, ◌++◌, [], map, ap, ap₂, sym, ◌∙◌}
use Rattle.std.proofs.lemmas.List.{map_more}
use Rattle.std.proofs.lemmas.Result.{err_from_is_err_and}
use Rattle.pp_pattern.specs.Patterns.{part_finder}
use Rattle.pp_pattern.proofs.PartLemmas.{part_goes, part_halts, part_wants}
use Rattle.pp_pattern.proofs.parts.judge_parts.Goals as goal

-- a part ended it
pub returns-in_err-judge_part-clause-went : goal.returns-in_err-judge_part-clause-went
returns-in_err-judge_part-clause-went g c =
    let p = err_from_is_err_and c.from_residual.result c.from_residual.ensures.1 in
    rw (p.1, p.2, ← c.as_slice-part-items.ensures)
    (part_halts _ _ _ _ _ _ _ _ c.loop-part.invariant.0 _ c.part-item.result _ c.loop-part-test.true c.part-item.is c.in_err-judge_part.ensures.went)

-- memory was wanting
pub returns-in_err-push-clause-went : goal.returns-in_err-push-clause-went
returns-in_err-push-clause-went g c =
    let p = err_from_is_err_and c.from_residual-in_err-push.result c.from_residual-in_err-push.ensures.1 in
    rw (p.1, p.2, ← c.as_slice-part-items.ensures)
    (part_wants _ _ _ _ _ _ _ _ c.loop-part.invariant.0 _ c.part-item.result _ c.loop-part-test.true c.part-item.is c.in_ok-judge_part.ensures.went)

-- one more part has its verdicts
pub loop-part-preserved : goal.loop-part-preserved
loop-part-preserved g c = (
  rw c.in_ok-push.ensures.ok
      (part_goes _ _ _ _ _ _ _ _ c.loop-part.invariant.0 _ c.part-item.result _ c.loop-part-test.true c.part-item.is c.in_ok-judge_part.ensures.went),
  c.in_ok-push.ensures.ok
      ∙ ap₂ (λ before one. before ++ one ∷ []) c.loop-part.invariant.1
      (c.in_ok-judge_part.ensures.found ∙ ap (λ p. map (part_finder g.D.Desk.finds p) c.args.subjects.now) c.part-item.is)
      ∙ sym (map_more _ c.as_slice-part-items.result.now c.loop-part.part-index c.part-item.result c.loop-part-test.true),
)
