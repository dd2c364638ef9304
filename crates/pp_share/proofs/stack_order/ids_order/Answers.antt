use Rattle.std.proofs.Common.{◌≡◌, ◌≤◌, ◌⊎◌, inl, inr, ⊎_elim, get_or, length, sym, ◌∙◌, arith}
use Rattle.std.proofs.lemmas.Bool.{cases_lt}
use Rattle.std.proofs.lemmas.List.{get_or_default}
use Rattle.std.specs.declared.cmp.Ordering.TheVariants.{Equal}
use Rattle.pp_share.specs.Renumbered.{new_ids}
use Rattle.pp_share.specs.StackOrder.{id_cmp}
use Rattle.pp_share.proofs.StackOrderLemmas.{one_further, by_first, by_lengths}
use Rattle.pp_share.proofs.stack_order.ids_order.Goals as goal

-- these differ
pub returns-in_default : goal.returns-in_default
returns-in_default c =
    by_first (id_cmp (new_ids c.args.by.now)) c.args.a.now c.args.b.now c.loop-index.index 0 c.id_order.result c.loop-index.invariant
    (omega (arith, c.loop-index-test.true, c.min-index-end.ensures)) (omega (arith, c.loop-index-test.true, c.min-index-end.ensures))
    (sym c.id_order.ensures) c.in_default.not-Equal

-- these do not
pub loop-index-preserved : goal.loop-index-preserved
loop-index-preserved c = λ k d below.
    let by = new_ids c.args.by.now in
    let a = c.args.a.now in
    let b = c.args.b.now in
    let index = c.loop-index.index in
    one_further (λ i. id_cmp by (get_or a i d) (get_or b i d) ≡ Equal) index (λ i lower. c.loop-index.invariant i d lower)
    ((λ j. id_cmp by (get_or_default a index d 0 (omega (arith, c.loop-index-test.true, c.min-index-end.ensures)) j) (get_or_default b index d 0 (omega (arith, c.loop-index-test.true, c.min-index-end.ensures)) j))
    ∙ sym c.id_order.ensures ∙ c.in-Equal.is)
    k below

-- the lengths decide
pub returns : goal.returns
returns c =
    let a = c.args.a.now in
    let b = c.args.b.now in
    let index = c.loop-index.index in
    let past : (length a ≤ index) ⊎ (length b ≤ index) =
    ⊎_elim (λ less. inl (omega (arith, less, c.loop-index-test.false, c.min-index-end.ensures))) (λ more. inr (omega (arith, more, c.loop-index-test.false, c.min-index-end.ensures)))
    (cases_lt (length a) (length b)) in
    c.cmp.ensures ∙ by_lengths (id_cmp (new_ids c.args.by.now)) a b index c.loop-index.invariant past
