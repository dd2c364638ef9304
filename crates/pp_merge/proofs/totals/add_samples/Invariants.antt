use Rattle.std.proofs.Common.{◌≡◌, ◌+◌, ◌≤◌, ◌^◌, ◌-◌, nat_abs, drop}
use Rattle.std.specs.List.{sum_by}
use Rattle.pp_model.specs.Words.{value_in}
use Rattle.pp_merge.proofs.totals.add_samples.Given as goal

-- what is left adds up with the total to the whole
abbrev pub invariant-loop-sample : goal.invariant-loop-sample
invariant-loop-sample l = record {
  small : l.total ≤ 2 ^ 63 - 1;
  whole : l.total + sum_by (λ s. nat_abs (value_in s l.column)) (drop l.sample-index l.samples) ≡ l.sum + sum_by (λ s. nat_abs (value_in s l.column)) l.samples;
}
