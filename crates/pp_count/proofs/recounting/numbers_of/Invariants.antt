use Rattle.std.proofs.Common.{◌≡◌, map, take, get_or}
use Rattle.pp_count.proofs.recounting.numbers_of.Given as goal

-- the numbers of the first names
abbrev pub invariant-loop-name : goal.invariant-loop-name
invariant-loop-name l = l.keys ≡ map (λ n. get_or l.numbers n 0) (take l.name-index l.kept)
