use Rattle.std.proofs.Common.{◌≡◌, map, take}
use Rattle.pp_build.specs.Given.{given_line}
use Rattle.pp_build.proofs.entries.lines_of.Given as goal

-- the lines so far
abbrev pub invariant-loop-line : goal.invariant-loop-line
invariant-loop-line l = l.list ≡ map given_line (take l.line-index l.lines)
