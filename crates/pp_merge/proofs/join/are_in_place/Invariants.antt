use Rattle.std.proofs.Common.{◌≡◌, ℕ, ◌+◌, ◌<◌, map, get_or}
use Rattle.pp_merge.proofs.join.are_in_place.Given as goal

abbrev pub invariant-loop-place : goal.invariant-loop-place
invariant-loop-place g l = (k : ℕ) → k < l.place → get_or (map g.T.HasId.id_of l.items) k 0 ≡ k + 1
