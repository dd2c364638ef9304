use Rattle.std.proofs.Common.{map}
use Rattle.pp_check.proofs.Scans.{Scanned}
use Rattle.pp_check.proofs.ids.repeated_id.Given as goal

-- the ids so far are known, and none of them stands twice
abbrev pub invariant-loop-index : goal.invariant-loop-index
invariant-loop-index g l = Scanned l.known (map g.T.HasId.id_of l.items) l.index
