use Rattle.std.proofs.Common.{◌≡◌, take}
use Rattle.pp_source.specs.Found.{found_parts}
use Rattle.pp_source.proofs.found.names_found.Given as goal

-- the parts of the keys so far that are found
abbrev pub invariant-loop-number : goal.invariant-loop-number
invariant-loop-number l = l.names.keys ≡ found_parts l.v.own l.part (take l.number l.keys)
