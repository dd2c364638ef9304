use Rattle.std.proofs.Common.{◌≡◌, replicate, true}
use Rattle.pp_tree.proofs.peek.all_kept.Given as goal

-- the first `counter` are kept so far
abbrev pub invariant-loop : goal.invariant-loop
invariant-loop l = l.keep ≡ replicate l.counter true
