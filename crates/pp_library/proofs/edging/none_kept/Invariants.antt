use Rattle.std.proofs.Common.{◌≡◌, false, replicate}
use Rattle.pp_library.proofs.edging.none_kept.Given as goal

abbrev pub invariant-loop : goal.invariant-loop
invariant-loop l = l.keep ≡ replicate l.counter false
