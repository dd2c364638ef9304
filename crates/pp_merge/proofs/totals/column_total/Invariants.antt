use Rattle.std.proofs.Common.{◌≡◌, ◌+◌, ◌≤◌, ◌^◌, ◌-◌, ◌∷◌, drop}
use Rattle.std.specs.List.{sum_by}
use Rattle.pp_model.specs.Words.{absolute_sum}
use Rattle.pp_merge.proofs.totals.column_total.Given as goal

-- what is left adds up with the total to the whole
abbrev pub invariant-loop-p : goal.invariant-loop-p
invariant-loop-p l = record {
  small : l.total ≤ 2 ^ 63 - 1;
  whole : l.total + sum_by (λ p. absolute_sum p l.column) (drop l.p-index l.others) ≡ sum_by (λ p. absolute_sum p l.column) (l.first ∷ l.others);
}
