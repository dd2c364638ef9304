use Rattle.std.proofs.Common.{◌≡◌, ℕ, ◌<◌, ◌≤◌, pos, ◌+ℤ◌, length, get_or}
use Rattle.pp_share.proofs.samples.add_to.Given as goal

abbrev pub invariant-loop-column : goal.invariant-loop-column
invariant-loop-column l = record {
  wide : length l.sums ≡ length l.initial.sums;
  done : (k : ℕ) → k < l.column
      → get_or l.sums k (pos 0) ≡ get_or l.initial.sums k (pos 0) +ℤ get_or l.row k (pos 0);
  left : (k : ℕ) → l.column ≤ k → get_or l.sums k (pos 0) ≡ get_or l.initial.sums k (pos 0);
}
