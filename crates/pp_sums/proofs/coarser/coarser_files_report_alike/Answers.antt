use Rattle.pp_sums.proofs.Passed.{passed_columns_stay, passed_rows_stay, passed_sums_stay}
use Rattle.pp_sums.proofs.Plain.{merges_are_loaded}
use Rattle.pp_sums.proofs.coarser.coarser_files_report_alike.Goals as goal

pub returns-clause-loaded : goal.returns-clause-loaded
returns-clause-loaded c = merges_are_loaded

pub returns-clause-columns : goal.returns-clause-columns
returns-clause-columns c = passed_columns_stay

pub returns-clause-sums : goal.returns-clause-sums
returns-clause-sums c = passed_sums_stay

pub returns-clause-rows : goal.returns-clause-rows
returns-clause-rows c = passed_rows_stay
