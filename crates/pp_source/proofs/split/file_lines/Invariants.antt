use Rattle.std.proofs.Common.{◌≡◌, ◌++◌, length, map}
use Rattle.pp_source.specs.SourceText.{file_lines}
use Rattle.pp_source.proofs.FileLemmas.{told}
use Rattle.pp_source.proofs.split.file_lines.Given as goal

-- the lines so far, and those of what is left
abbrev pub invariant-loop-rest : goal.invariant-loop-rest
invariant-loop-rest l = map told l.lines.items ++ file_lines l.rest ≡ file_lines l.bytes

abbrev pub decreases-loop-rest : goal.decreases-loop-rest
decreases-loop-rest l = length l.rest
