use Rattle.std.proofs.Common.{◌≡◌, ℕ, ◌≤◌}
use Rattle.pp_steal.specs.Reaching.{Rose, RoseInTurn}
use Rattle.pp_steal.proofs.reach.sweep.Given as goal

abbrev pub invariant-loop-step : goal.invariant-loop-step
invariant-loop-step g l = let start = l.fn.reach in let now = l.reach in record {
  lanes : (g.R.Reach.lanes now ≡ l.lanes) × (g.R.Reach.lanes now ≡ g.R.Reach.lanes start);
  own : (g.R.Reach.own now ≡ l.own) × (g.R.Reach.own now ≡ g.R.Reach.own start);
  make : g.R.Reach.make now ≡ g.R.Reach.make start;
  taken : g.R.Reach.taken now ≡ g.R.Reach.taken start;
  empties : (g.R.Reach.empties start ≤ g.R.Reach.empties now) × Rose (g.R.Reach.empties start) (g.R.Reach.empties now);
  misses : (lane : ℕ) → g.R.Reach.misses start lane ≤ g.R.Reach.misses now lane;
  round : RoseInTurn l.lanes l.own l.step (g.R.Reach.misses start) (g.R.Reach.misses now);
}
