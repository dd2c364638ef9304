use Rattle.std.proofs.Common.{ℕ, ◌<◌, ◌≤◌, ◌-◌, ◌^◌, nat_abs}
use Rattle.std.specs.List.{sum_by}
use Rattle.pp_model.specs.Words.{value_in}
use Rattle.pp_edit.proofs.counting.all_fit.Given as goal

-- the columns so far can be added up
abbrev pub invariant-loop-column : goal.invariant-loop-column
invariant-loop-column l =
    (c : ℕ) → c < l.column → sum_by (λ s. nat_abs (value_in s c)) l.samples ≤ 2 ^ 63 - 1
