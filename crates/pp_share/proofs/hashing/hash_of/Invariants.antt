use Rattle.std.proofs.Common.{◌≡◌, fold, take}
use Rattle.pp_share.specs.SampleStacks.{with_word, with_label}
use Rattle.pp_share.proofs.hashing.hash_of.Given as goal

abbrev pub invariant-loop-id : goal.invariant-loop-id
invariant-loop-id l = l.hash ≡ fold with_word 0 (take l.id-index l.ids)

abbrev pub invariant-loop-label : goal.invariant-loop-label
invariant-loop-label l = l.hash ≡ fold with_label (fold with_word 0 l.ids) (take l.label-index l.labels)
