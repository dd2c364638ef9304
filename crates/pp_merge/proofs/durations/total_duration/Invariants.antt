use Rattle.std.proofs.Common.{◌≡◌, ◌+◌, ◌*◌, ◌^◌, ◌+ℤ◌, ◌≤ℤ◌, pos, fold, drop}
use Rattle.std.specs.Prelude.{neg_ℤ}
use Rattle.pp_merge.proofs.durations.total_duration.Given as goal

-- what is left adds up with the sum to the whole, and the sum is no more than the durations so far can be
abbrev pub invariant-loop-p : goal.invariant-loop-p
invariant-loop-p l = record {
  whole : fold (λ sum p. sum +ℤ p.duration_nanos) l.sum (drop l.p-index l.others) ≡ fold (λ sum p. sum +ℤ p.duration_nanos) l.first.duration_nanos l.others;
  low : neg_ℤ (pos ((l.p-index + 1) * 2 ^ 63)) ≤ℤ l.sum;
  high : l.sum ≤ℤ pos ((l.p-index + 1) * 2 ^ 63);
}
