use Rattle.pp_laws.proofs.Accounted.{samples_add_up, others_drop_none, nodes_add_up, values_add_up}
use Rattle.pp_laws.proofs.accounts.accounts_add_up.Goals as goal

pub returns-clause-samples : goal.returns-clause-samples
returns-clause-samples c = samples_add_up

pub returns-clause-others : goal.returns-clause-others
returns-clause-others c = others_drop_none

pub returns-clause-nodes : goal.returns-clause-nodes
returns-clause-nodes c = nodes_add_up

pub returns-clause-values : goal.returns-clause-values
returns-clause-values c = values_add_up
