use Rattle.std.proofs.Common.{◌≡◌}
use Rattle.pp_merge.proofs.NormalizingLemmas.{front_normalized}
use Rattle.pp_merge.proofs.normalizing.normalize.Given as goal

-- the columns so far are scaled
abbrev pub invariant-loop-column : goal.invariant-loop-column
invariant-loop-column l = l.source ≡ front_normalized l.fn.source l.base l.column
