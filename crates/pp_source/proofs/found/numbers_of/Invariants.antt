use Rattle.std.proofs.Common.{◌≡◌, map, take}
use Rattle.pp_source.specs.Found.{part_number}
use Rattle.pp_source.proofs.found.numbers_of.Given as goal

-- the numbers of the parts of the keys so far
abbrev pub invariant-loop-number : goal.invariant-loop-number
invariant-loop-number l = l.numbers.items ≡ map (part_number l.part l.names.keys) (take l.number l.keys)
