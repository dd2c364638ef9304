use Rattle.std.proofs.Common.{◌≡◌, rules, map}
use Rattle.std.specs.Ordering.{is_lt}
use Rattle.std.proofs.lemmas.Fn.{always_returns_same}
use Rattle.std.proofs.lemmas.List.Sorted.{IsPermutation-map, All-permutation, ranks_by}
use Rattle.pp_graph.specs.declared.heavy.RankedRow.{RankedRow}
use Rattle.pp_graph.specs.Ranks.{row_cmp, IsRankedRow}
use Rattle.pp_graph.proofs.RowOrder.{row_cmp_total}
use Rattle.pp_graph.proofs.heavy.ranked.Goals as goal

pub returns : goal.returns
returns c = record {
  sorted = c.in_ok-sort_by.ensures.sorted (λ a b. is_lt (row_cmp a b)) (ranks_by row_cmp_total (λ r. r))
      (always_returns_same _ (λ a r. is_lt r ≡ is_lt (row_cmp a.0.now a.1.0.now)) _ (λ a r f' k. search rules));
  rows_are = All-permutation (IsRankedRow c.args.p.now c.args.sort c.args.sums.now) _ _ c.in_ok-sort_by.ensures.permutation c.in_ok-heavy.ensures.rows_are;
  numbers = rw (← c.in_ok-heavy.ensures.numbers) (IsPermutation-map (λ (r : RankedRow). r.number) _ _ c.in_ok-sort_by.ensures.permutation);
  too_light = c.in_ok-heavy.ensures.too_light;
}
