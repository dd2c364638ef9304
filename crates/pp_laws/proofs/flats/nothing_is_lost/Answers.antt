use Rattle.pp_laws.proofs.AddingUp.{flats_counted, rows_counted, all_counted}
use Rattle.pp_laws.proofs.flats.nothing_is_lost.Goals as goal

pub returns-clause-counted : goal.returns-clause-counted
returns-clause-counted c = flats_counted

pub returns-clause-rows : goal.returns-clause-rows
returns-clause-rows c = rows_counted

pub returns-clause-all : goal.returns-clause-all
returns-clause-all c = all_counted
