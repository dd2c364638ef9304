use Rattle.std.proofs.Common.{◌≡◌}
use Rattle.pp_pseudo.specs.Grown.{name_functions}
use Rattle.pp_pseudo.proofs.growing.named_functions.Given as goal

-- the functions of the numbers so far
abbrev pub invariant-loop-number : goal.invariant-loop-number
invariant-loop-number l = l.functions ≡ name_functions l.p l.number
