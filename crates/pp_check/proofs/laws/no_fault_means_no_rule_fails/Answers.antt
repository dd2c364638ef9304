use Rattle.pp_check.proofs.Keeps.{keeps_rules, has_no_fault}
use Rattle.pp_check.proofs.laws.no_fault_means_no_rule_fails.Goals as goal

pub returns : goal.returns
returns c = λ p. (keeps_rules p, has_no_fault p)
