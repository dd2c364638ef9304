-- The order of siblings is an order.
use Rattle.std.proofs.Common.{nat_abs}
use Rattle.std.specs.Cmp.{IsTotalOrder, nat_cmp_total}
use Rattle.std.proofs.lemmas.Cmp.{on_total, then_total, back_total}
use Rattle.pp_grain.proofs.CallerLemmas.{key_cmp_total}
use Rattle.pp_calltree.specs.declared.branch.Branch.{Branch}
use Rattle.pp_calltree.specs.declared.texts.NameTexts.{NameTexts}
use Rattle.pp_calltree.specs.Siblings.{branch_cmp, texts_at}

pub branch_cmp_total : (texts : NameTexts) → IsTotalOrder (branch_cmp texts)
branch_cmp_total texts =
    then_total
    (then_total
    (back_total (on_total (λ (b : Branch). nat_abs b.cum) nat_cmp_total))
    (back_total (on_total (λ (b : Branch). nat_abs b.flat) nat_cmp_total)))
    (on_total (λ (b : Branch). texts_at texts b.key) key_cmp_total)
