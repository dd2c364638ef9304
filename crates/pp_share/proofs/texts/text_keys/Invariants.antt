use Rattle.std.proofs.Common.{◌≡◌, map}
use Rattle.pp_share.proofs.texts.text_keys.Given as goal

abbrev pub invariant-loop-text : goal.invariant-loop-text
invariant-loop-text l = map (λ key. key.bytes.items) l.keys.items ≡ l.yielded
