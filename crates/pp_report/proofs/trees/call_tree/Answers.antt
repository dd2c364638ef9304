use Rattle.pp_report.proofs.FinishingLemmas.{made_text}
use Rattle.pp_report.proofs.trees.call_tree.Goals as goal

-- it is the whole text
pub returns : goal.returns
returns g c = λ f holds. made_text c.write_calltree.new.out c.new-text.result _ c.new-text.ensures (c.in_ok-write_calltree.ensures.ok f holds)
