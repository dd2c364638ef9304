use Rattle.std.proofs.Common.{◌≡◌, ◌++◌, ◌≤◌, length, reverse, take}
use Rattle.pp_calltree.proofs.paths.put_rooted.Given as goal

-- the keys that are left
abbrev pub invariant-loop-left : goal.invariant-loop-left
invariant-loop-left l = record {
  in_range : l.left ≤ length l.keys;
  keys_are : l.out.items ++ reverse (take l.left l.keys) ≡ l.fn.out.items ++ reverse l.keys;
}

abbrev pub decreases-loop-left : goal.decreases-loop-left
decreases-loop-left l = l.left
