use Rattle.std.proofs.Common.{◌≡◌, map}
use Rattle.pp_share.proofs.texts.texts_of.Given as goal

abbrev pub invariant-loop-key : goal.invariant-loop-key
invariant-loop-key l = l.texts ≡ map (λ key. key.bytes.items) l.yielded
