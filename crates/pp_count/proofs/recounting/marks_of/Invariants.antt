use Rattle.std.proofs.Common.{◌≡◌, map, take}
use Rattle.pp_count.specs.Edges.{is_marked}
use Rattle.pp_count.proofs.recounting.marks_of.Given as goal

-- the marks of the first names
abbrev pub invariant-loop-name : goal.invariant-loop-name
invariant-loop-name l = l.marks ≡ map (is_marked l.marked) (take l.name-index l.kept)
