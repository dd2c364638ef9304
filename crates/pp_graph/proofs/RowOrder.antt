-- Report order of rows is an order.
use Rattle.std.specs.Cmp.{IsTotalOrder, nat_cmp_total}
use Rattle.std.proofs.lemmas.Cmp.{on_total, then_total, back_total}
use Rattle.pp_grain.proofs.CallerLemmas.{key_cmp_total}
use Rattle.pp_graph.specs.declared.heavy.RankedRow.{RankedRow}
use Rattle.pp_graph.specs.Ranks.{row_cmp, row_key}

pub row_cmp_total : IsTotalOrder row_cmp
row_cmp_total =
    then_total
    (then_total
    (back_total (on_total (λ (r : RankedRow). r.major) nat_cmp_total))
    (back_total (on_total (λ (r : RankedRow). r.minor) nat_cmp_total)))
    (on_total row_key key_cmp_total)
