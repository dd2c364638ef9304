use Rattle.std.proofs.Common.{◌≡◌, ◌++◌, replicate}
use Rattle.pp_units.proofs.right.put_column.Given as goal

abbrev pub invariant-loop : goal.invariant-loop
invariant-loop l = l.out ≡ l.fn.out ++ replicate l.counter 32
