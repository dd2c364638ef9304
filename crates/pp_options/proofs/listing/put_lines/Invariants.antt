use Rattle.std.proofs.Common.{◌≡◌, ◌++◌, map, take}
use Rattle.std.specs.List.{flat_map}
use Rattle.pp_options.specs.Tables.{row_of}
use Rattle.pp_options.specs.Listing.{option_line}
use Rattle.pp_options.proofs.listing.put_lines.Given as goal

abbrev pub invariant-loop-row : goal.invariant-loop-row
invariant-loop-row l = l.out ≡ l.fn.out ++ flat_map (option_line l.config) (map row_of (take l.row-index l.rows))
