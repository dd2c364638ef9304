use Rattle.std.proofs.Common.{take}
use Rattle.pp_count.specs.Scope.{samples_in_scope}
use Rattle.pp_source.specs.Ledgers.{HasWalkedTo}
use Rattle.pp_source.proofs.walk.add_kept.Given as goal

-- the samples so far are added
abbrev pub invariant-loop-place : goal.invariant-loop-place
invariant-loop-place l = HasWalkedTo l.walk l.place (take l.place (samples_in_scope l.walk.scope)) l.sums
