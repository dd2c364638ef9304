use Rattle.std.proofs.Common.{◌<◌, ◌-◌, ◌^◌}
use Rattle.pp_real.proofs.words.read_word.Given as goal

-- there is room, so that twice the room is more
abbrev pub invariant-growing : goal.invariant-growing
invariant-growing g l = 0 < l.room

-- what can still be counted above the room
abbrev pub decreases-growing : goal.decreases-growing
decreases-growing g l = 2 ^ 64 - l.room
