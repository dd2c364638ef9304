use Rattle.std.proofs.Common.{◌≡◌, map}
use Rattle.pp_pseudo.proofs.names.texts_of.Given as goal

-- the names so far
abbrev pub invariant-loop-name : goal.invariant-loop-name
invariant-loop-name l = l.texts ≡ map (λ name. name.items) l.yielded
