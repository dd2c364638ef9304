use Rattle.std.proofs.Common.{◌≡◌, map, take}
use Rattle.pp_source.specs.Files.{files_of_lines}
use Rattle.pp_source.specs.Ledgers.{lines_texts}
use Rattle.pp_source.proofs.files.files_of.Given as goal

-- the files of the lines so far
abbrev pub invariant-loop-line : goal.invariant-loop-line
invariant-loop-line l = map (λ f. f.now) l.files.keys ≡ files_of_lines (lines_texts (take l.line-index l.lines))
