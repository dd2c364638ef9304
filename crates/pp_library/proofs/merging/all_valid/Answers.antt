use Rattle.std.proofs.Common.{◌∙◌, subst}
use Rattle.pp_model.specs.Words.{NoRuleFails}
use Rattle.pp_library.proofs.MergeLemmas.{one_more_valid}
use Rattle.pp_library.proofs.merging.all_valid.Goals as goal

-- so does the next one
pub loop-p-preserved : goal.loop-p-preserved
loop-p-preserved c =
    one_more_valid c.args.profiles.now c.loop-p.p-index c.p-item.result c.loop-p-test.true
    (subst NoRuleFails (c.get-valid.ensures.same ∙ c.p-item.is) c.get-valid.ensures.valid) c.loop-p.invariant
