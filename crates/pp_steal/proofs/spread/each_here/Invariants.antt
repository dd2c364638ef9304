use Rattle.std.proofs.Common.{◌≡◌, ℕ, ◌+◌, ◌<◌, ◌≤◌, get_or}
use Rattle.std.specs.Fork.{ChangesAt}
use Rattle.pp_steal.proofs.spread.each_here.Given as goal

-- the items in front were left by calls, and the others are as they were
abbrev pub invariant-loop-index : goal.invariant-loop-index
invariant-loop-index g l = record {
  behind : (j : ℕ) (other : g.row.T.Denot) → l.index ≤ j → get_or l.part j other ≡ get_or l.initial.part j other;
  called : (j : ℕ) (other : g.row.T.Denot) → j < l.index
      → ChangesAt g.F.Fn l.f (l.from + j) (get_or l.initial.part j other) (get_or l.part j other);
}
