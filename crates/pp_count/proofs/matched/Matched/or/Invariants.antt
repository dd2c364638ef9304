use Rattle.std.proofs.Common.{◌≡◌, ◌++◌, drop}
use Rattle.pp_count.specs.Matches.{either}
use Rattle.pp_count.proofs.matched.Matched.or.Given as goal

-- the slots so far, and those that are left
abbrev pub invariant-loop-place : goal.invariant-loop-place
invariant-loop-place l =
    either l.self.slots l.others.slots ≡ l.slots ++ either (drop l.place l.self.slots) (drop l.place l.others.slots)
