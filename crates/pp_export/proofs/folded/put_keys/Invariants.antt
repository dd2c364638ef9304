use Rattle.std.proofs.Common.{◌≡◌, ◌++◌, map, take}
use Rattle.std.specs.List.{flat_map}
use Rattle.pp_export.specs.PathNames.{name_and_separator, numbered_name, ArePathNames}
use Rattle.pp_export.proofs.folded.put_keys.Given as goal

-- the names so far
abbrev pub invariant-loop-key : goal.invariant-loop-key
invariant-loop-key l = record {
  names_are : ArePathNames (numbered_name l.l.profile l.names) l.path_names;
  out_is : l.out ≡ l.initial.out ++ flat_map name_and_separator (map (numbered_name l.l.profile l.names) (take l.key-index l.keys));
}
