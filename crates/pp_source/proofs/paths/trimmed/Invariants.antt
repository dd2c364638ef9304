use Rattle.std.proofs.Common.{◌≡◌, map, drop}
use Rattle.pp_source.specs.Paths.{without_folder}
use Rattle.pp_source.proofs.paths.trimmed.Given as goal

-- the file lies in none of the folders so far
abbrev pub invariant-loop-folder : goal.invariant-loop-folder
invariant-loop-folder l = without_folder l.file (map (λ folder. folder.now) l.folders) ≡ without_folder l.file (map (λ folder. folder.now) (drop l.folder-index l.folders))
