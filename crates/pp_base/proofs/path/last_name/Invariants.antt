use Rattle.std.proofs.Common.{◌≡◌, ℕ, ◌<◌, ◌≤◌, false, length, get_or}
use Rattle.pp_base.specs.Paths.{is_slash}
use Rattle.pp_base.proofs.path.last_name.Given as goal

-- no slash stands from the start on
abbrev pub invariant-loop-start : goal.invariant-loop-start
invariant-loop-start l =
    (l.start ≤ length l.path) × ((k : ℕ) → l.start ≤ k → k < length l.path → is_slash (get_or l.path k 0) ≡ false)

abbrev pub decreases-loop-start : goal.decreases-loop-start
decreases-loop-start l = l.start
