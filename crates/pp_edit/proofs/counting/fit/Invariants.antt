use Rattle.std.proofs.Common.{◌≡◌, ◌+◌, ◌-◌, ◌^◌, nat_abs, drop}
use Rattle.std.specs.List.{sum_by}
use Rattle.pp_model.specs.Words.{value_in}
use Rattle.pp_edit.proofs.counting.fit.Given as goal

-- what is left and the whole add up to the limit and what is still to come
abbrev pub invariant-loop-sample : goal.invariant-loop-sample
invariant-loop-sample l =
    l.left + sum_by (λ s. nat_abs (value_in s l.column)) l.samples
    ≡ 2 ^ 63 - 1 + sum_by (λ s. nat_abs (value_in s l.column)) (drop l.sample-index l.samples)
