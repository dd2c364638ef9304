use Rattle.pp_sums.proofs.Sourced.{source_order_keeps_rows, source_order_keeps_sums}
use Rattle.pp_sums.proofs.sources.source_order_is_free.Goals as goal

pub returns-clause-sums : goal.returns-clause-sums
returns-clause-sums c = source_order_keeps_sums

pub returns-clause-rows : goal.returns-clause-rows
returns-clause-rows c = source_order_keeps_rows
