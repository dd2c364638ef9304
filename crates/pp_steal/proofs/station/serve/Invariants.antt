use Rattle.std.proofs.Common.{◌≡◌, ◌-◌, length}
use Rattle.pp_steal.specs.Running.{HasOutcomes}
use Rattle.pp_steal.proofs.station.serve.Given as goal

abbrev pub invariant-loop-piece : goal.invariant-loop-piece
invariant-loop-piece g l = record {
  same : (l.station.lane.make ≡ l.fn.station.lane.make) × (l.station.lane.own ≡ l.fn.station.lane.own);
  outcomes : HasOutcomes (g.J.Job.right l.job) l.station.lane.taken l.station.outcomes.items;
}

-- how many pieces the lane can still take
abbrev pub decreases-loop-piece : goal.decreases-loop-piece
decreases-loop-piece g l = l.station.lane.make.pieces - length l.station.lane.taken
