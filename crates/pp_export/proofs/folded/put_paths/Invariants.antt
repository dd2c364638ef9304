use Rattle.std.proofs.Common.{◌≡◌, ◌++◌, map, take}
use Rattle.std.specs.List.{flat_map}
use Rattle.pp_calltree.specs.CallPaths.{path_written}
use Rattle.pp_export.specs.Folded.{path_line}
use Rattle.pp_export.specs.PathNames.{numbered_name, ArePathNames}
use Rattle.pp_export.proofs.folded.put_paths.Given as goal

-- the lines so far
abbrev pub invariant-loop-path : goal.invariant-loop-path
invariant-loop-path l = record {
  names_are : ArePathNames (numbered_name l.l.profile l.names) l.path_names;
  out_is : l.out ≡ l.initial.out ++ flat_map path_line (map (path_written l.l.profile l.names) (take l.path-index l.paths));
}
