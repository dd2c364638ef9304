use Rattle.std.proofs.Common.{◌≡◌, map, take}
use Rattle.pp_source.specs.Tally.{new_number}
use Rattle.pp_source.proofs.walk.put_numbers.Given as goal

-- the numbers of the keys so far
abbrev pub invariant-loop-key : goal.invariant-loop-key
invariant-loop-key l = l.room.items ≡ map (new_number l.numbers) (take l.key-index l.keys)
