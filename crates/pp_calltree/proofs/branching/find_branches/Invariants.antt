use Rattle.std.proofs.Common.{◌≡◌, ◌-◌, ◌≤◌, ℕ, List, All, length, drop}
use Rattle.pp_calltree.specs.Listed.{BeginsWith}
use Rattle.pp_calltree.proofs.FoundRuns.{FoundTo}
use Rattle.pp_calltree.proofs.Trails.{TrailsTo}
use Rattle.pp_calltree.proofs.branching.find_branches.Given as goal

-- the branches so far
abbrev pub invariant-loop-from : goal.invariant-loop-from
invariant-loop-from l = record {
  in_range : l.from ≤ length l.paths;
  found_are : FoundTo l.depth l.paths (drop l.from l.paths) l.found.items;
  trails : (above : List ℕ) → length above ≡ l.depth → All (BeginsWith above) l.paths → TrailsTo above (drop l.from l.paths) l.found.items;
}

abbrev pub decreases-loop-from : goal.decreases-loop-from
decreases-loop-from l = length l.paths - l.from
