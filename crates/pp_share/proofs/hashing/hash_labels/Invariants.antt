use Rattle.std.proofs.Common.{◌≡◌, fold, take}
use Rattle.pp_share.specs.Renumbered.{new_ids, renumbered_label}
use Rattle.pp_share.specs.SampleStacks.{with_label}
use Rattle.pp_share.proofs.hashing.hash_labels.Given as goal

-- the hash with the labels so far
abbrev pub invariant-loop-label : goal.invariant-loop-label
invariant-loop-label l = l.hash ≡ fold (λ hash label. with_label hash (renumbered_label (new_ids l.by) label)) l.before (take l.label-index l.labels)
