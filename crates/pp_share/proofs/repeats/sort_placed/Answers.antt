use Rattle.std.proofs.Common.{◌≡◌, rules}
use Rattle.std.specs.Cmp.{nat_cmp_total, on_total, then_total}
use Rattle.std.specs.Ordering.{is_lt}
use Rattle.std.proofs.lemmas.Fn.{always_returns_same}
use Rattle.std.proofs.lemmas.List.Sorted.{ranks_by}
use Rattle.pp_share.specs.declared.repeats.Placed.{Placed}
use Rattle.pp_share.specs.StackOrder.{kind_cmp, placed_cmp}
use Rattle.pp_share.proofs.StackOrderLemmas.{kind_total}
use Rattle.pp_share.proofs.repeats.sort_placed.Goals as goal

-- the closure answers by a total order
pub returns-clause-sorted : goal.returns-clause-sorted
returns-clause-sorted c =
    let kind = c.args.kind.now in
    c.sort_unstable_by.ensures.sorted (λ a b. is_lt (placed_cmp (kind_cmp kind) a b))
    (ranks_by (then_total (kind_total kind) (on_total (λ (p : Placed). p.place) nat_cmp_total)) (λ (p : Placed). p))
    (always_returns_same _ (λ a r. is_lt r ≡ is_lt (placed_cmp (kind_cmp kind) a.0.now a.1.0.now)) _ (λ a r f' k. search rules))
