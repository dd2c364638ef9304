use Rattle.pp_laws.proofs.Spelling.{rows_stay, units_spell, picked_units_spell, forced_units_spell, each_units_spell, each_is_picked, each_tells_zero}
use Rattle.pp_laws.proofs.units.units_only_spell.Goals as goal

pub returns-clause-rows : goal.returns-clause-rows
returns-clause-rows c = rows_stay

pub returns-clause-values : goal.returns-clause-values
returns-clause-values c = units_spell

pub returns-clause-picked : goal.returns-clause-picked
returns-clause-picked c = picked_units_spell

pub returns-clause-forced : goal.returns-clause-forced
returns-clause-forced c = forced_units_spell

pub returns-clause-each : goal.returns-clause-each
returns-clause-each c = each_units_spell

pub returns-clause-alone : goal.returns-clause-alone
returns-clause-alone c = each_is_picked

pub returns-clause-zero : goal.returns-clause-zero
returns-clause-zero c = each_tells_zero
