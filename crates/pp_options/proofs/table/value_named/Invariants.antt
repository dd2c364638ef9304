use Rattle.std.proofs.Common.{◌≡◌, map, drop}
use Rattle.pp_options.specs.Tables.{entry_of, value_named}
use Rattle.pp_options.proofs.table.value_named.Given as goal

abbrev pub invariant-loop-named : goal.invariant-loop-named
invariant-loop-named g l = value_named (map entry_of (drop l.named-index l.table)) l.name ≡ value_named (map entry_of l.table) l.name
