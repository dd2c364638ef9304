use Rattle.std.proofs.Common.{◌≤◌, ◌-◌, length, take}
use Rattle.pp_desk.specs.Finding.{HasNoEnd}
use Rattle.pp_desk.proofs.line_reader.find_end.Given as goal

-- no line end stands in front
abbrev pub invariant-searching : goal.invariant-searching
invariant-searching l = record { inside : l.at ≤ length l.bytes; none : HasNoEnd (take l.at l.bytes) }

abbrev pub decreases-searching : goal.decreases-searching
decreases-searching l = length l.bytes - l.at
