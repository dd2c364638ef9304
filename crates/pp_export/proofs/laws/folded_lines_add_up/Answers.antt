use Rattle.pp_export.proofs.AddingUp.{lines_add_up, lines_of_keys_add_up}
use Rattle.pp_export.proofs.laws.folded_lines_add_up.Goals as goal

pub returns-clause-all : goal.returns-clause-all
returns-clause-all c = lines_add_up

pub returns-clause-keys : goal.returns-clause-keys
returns-clause-keys c = lines_of_keys_add_up
