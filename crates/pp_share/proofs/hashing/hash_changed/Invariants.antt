use Rattle.std.proofs.Common.{◌≡◌, fold, take}
use Rattle.pp_share.specs.SampleStacks.{with_word}
use Rattle.pp_share.proofs.hashing.hash_changed.Given as goal

-- the hash of the ids so far
abbrev pub invariant-loop-id : goal.invariant-loop-id
invariant-loop-id g l = l.hash ≡ fold (λ hash id. with_word hash (g.C.Change.changed l.change id)) 0 (take l.id-index l.ids)
