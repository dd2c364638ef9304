use Rattle.pp_engine.proofs.PlanLemmas.{planned_again}
use Rattle.pp_engine.proofs.laws.words_ask_for_a_plan.Goals as goal

pub returns : goal.returns
returns c = planned_again
