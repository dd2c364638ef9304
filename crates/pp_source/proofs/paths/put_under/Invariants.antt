use Rattle.std.proofs.Common.{◌≡◌, ◌++◌, map, take}
use Rattle.pp_source.specs.Paths.{in_folder}
use Rattle.pp_source.proofs.paths.put_under.Given as goal

-- the path in each of the folders so far is added
abbrev pub invariant-loop-folder : goal.invariant-loop-folder
invariant-loop-folder l = l.paths ≡ l.fn.paths ++ map (λ folder. in_folder l.path folder.now) (take l.folder-index l.folders)
