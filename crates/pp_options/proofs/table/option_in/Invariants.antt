use Rattle.std.proofs.Common.{◌≡◌, map, drop}
use Rattle.pp_options.specs.Tables.{row_of, option_in}
use Rattle.pp_options.proofs.table.option_in.Given as goal

abbrev pub invariant-loop-row : goal.invariant-loop-row
invariant-loop-row g l = option_in (map row_of (drop l.row-index l.rows)) l.name ≡ option_in (map row_of l.rows) l.name
