use Rattle.std.proofs.Common.{◌≡◌, ◌+◌, drop}
use Rattle.pp_calltree.specs.Paths.{has_key_below, run_length}
use Rattle.pp_calltree.proofs.branching.run_length.Given as goal

-- the paths so far have the key
abbrev pub invariant-loop-place : goal.invariant-loop-place
invariant-loop-place l = run_length (has_key_below l.depth l.key) l.paths ≡ l.place + run_length (has_key_below l.depth l.key) (drop l.place l.paths)
