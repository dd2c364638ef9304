use Rattle.std.proofs.Common.{◌≡◌, ◌++◌, map, take}
use Rattle.std.specs.List.{flat_map}
use Rattle.pp_options.specs.Tables.{row_of}
use Rattle.pp_options.specs.Help.{help_row}
use Rattle.pp_options.proofs.help.put_rows.Given as goal

abbrev pub invariant-loop-row : goal.invariant-loop-row
invariant-loop-row g l = l.out ≡ l.fn.out ++ flat_map help_row (map row_of (take l.row-index l.rows))
