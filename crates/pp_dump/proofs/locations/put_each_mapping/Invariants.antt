use Rattle.std.proofs.Common.{◌≡◌, ◌++◌, take}
use Rattle.std.specs.List.{flat_map}
use Rattle.pp_dump.specs.Raw.{mapping_line}
use Rattle.pp_dump.proofs.locations.put_each_mapping.Given as goal

abbrev pub invariant-loop-mapping : goal.invariant-loop-mapping
invariant-loop-mapping l = l.lines ≡ l.initial.lines ++ flat_map (mapping_line l.p) (take l.mapping-index l.mapping-items)
