use Rattle.pp_merge.proofs.PointwiseLemmas.{items_differ, items_agree, all_agree}
use Rattle.pp_merge.proofs.compatible.are_same_types.Goals as goal

-- two types differ
pub returns-then-not-is_same_type : goal.returns-then-not-is_same_type
returns-then-not-is_same_type c =
    items_differ _ c.args.types.now c.args.others.now c.loop-place.place _ _ c.is_same_type.result _ c.loop-place-test.true c.requires c.is_same_type.ensures c.if-not-is_same_type.true c.loop-place.invariant

-- two types are equal
pub loop-place-preserved : goal.loop-place-preserved
loop-place-preserved c =
    items_agree _ c.args.types.now c.args.others.now c.loop-place.place _ _ c.is_same_type.result _ c.loop-place-test.true c.requires c.is_same_type.ensures c.if-not-is_same_type.false c.loop-place.invariant

-- no type is left
pub returns : goal.returns
returns c = all_agree _ c.args.types.now c.args.others.now c.loop-place.place _ c.loop-place-test.false c.requires c.loop-place.invariant
