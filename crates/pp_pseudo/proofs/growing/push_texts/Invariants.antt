use Rattle.std.proofs.Common.{◌≡◌, ◌++◌}
use Rattle.pp_pseudo.proofs.growing.push_texts.Given as goal

-- the texts so far are added
abbrev pub invariant-loop-text : goal.invariant-loop-text
invariant-loop-text l = l.all ≡ l.fn.all ++ l.yielded
