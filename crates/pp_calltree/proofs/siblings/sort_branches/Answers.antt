use Rattle.std.proofs.Common.{◌≡◌, rules}
use Rattle.std.specs.Ordering.{is_lt}
use Rattle.std.proofs.lemmas.Fn.{always_returns_same}
use Rattle.std.proofs.lemmas.List.Sorted.{ranks_by}
use Rattle.pp_calltree.specs.Siblings.{branch_cmp}
use Rattle.pp_calltree.proofs.SiblingOrder.{branch_cmp_total}
use Rattle.pp_calltree.proofs.siblings.sort_branches.Goals as goal

pub returns-clause-sorted : goal.returns-clause-sorted
returns-clause-sorted c =
    c.in_ok-sort_by.ensures.sorted (λ a b. is_lt (branch_cmp c.args.texts.now a b)) (ranks_by (branch_cmp_total c.args.texts.now) (λ b. b))
    (always_returns_same _ (λ a r. is_lt r ≡ is_lt (branch_cmp c.args.texts.now a.0.now a.1.0.now)) _ (λ a r f' k. search rules))
