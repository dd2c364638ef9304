use Rattle.std.proofs.Common.{◌≡◌, ◌++◌}
use Rattle.std.specs.Prelude.{codes}
use Rattle.std.specs.List.{repeat}
use Rattle.pp_calltree.proofs.writing.put_spaces.Given as goal

-- the spaces so far
abbrev pub invariant-loop-above : goal.invariant-loop-above
invariant-loop-above l = l.out ≡ l.initial.out ++ repeat l._above (codes "  ")
