use Rattle.std.proofs.Common.{◌≡◌, ℕ, ◌<◌, ◌^◌, nat_abs, length, All, List, true, false, sym, ap, subst, ◌∙◌, arith}
use Rattle.std.specs.List.{sum_by}
use Rattle.std.proofs.lemmas.List.Elements.{All-filter}
use Rattle.pp_graph.specs.Ranks.{sum_of_name}
use Rattle.pp_graph.specs.Trim.{shown_keys}
use Rattle.pp_account.specs.Nodes.{is_where, numbers_where, past_limit}
use Rattle.pp_account.proofs.Noding.{fewer, shown_below, shown_fewer, past_below, past_fewer}
use Rattle.pp_account.proofs.nodes.node_portions.Goals as goal

-- the light ones
pub portion_of-requires-2-clause-below : goal.portion_of-requires-2-clause-below
portion_of-requires-2-clause-below c =
    let test = is_where c.args.c.now.sums c.args.c.now.total c.args.least.billionths false in
    subst (All (λ n. n < length c.args.c.now.sums.flat)) (sym (c.as_slice-2.ensures ∙ c.in_ok-light.ensures))
    (All-filter test (λ n. n < length c.args.c.now.sums.flat) c.args.order.now (λ k d here. omega (arith, c.requires.below k d here, c.requires.fits.flats)))

pub portion_of-requires-2-clause-small : goal.portion_of-requires-2-clause-small
portion_of-requires-2-clause-small c =
    let size : ℕ → ℕ = λ n. nat_abs (sum_of_name c.args.c.now.sums.flat n) in
    subst (λ (ns : List ℕ). sum_by size ns < 2 ^ 63) (sym (c.as_slice-2.ensures ∙ c.in_ok-light.ensures))
    (omega (arith, c.requires.small, fewer (is_where c.args.c.now.sums c.args.c.now.total c.args.least.billionths false) size c.args.order.now))

-- those past the limit
pub portion_of-requires-3-clause-below : goal.portion_of-requires-3-clause-below
portion_of-requires-3-clause-below c =
    let P = λ (n : ℕ). n < length c.args.c.now.sums.flat in
    let test = is_where c.args.c.now.sums c.args.c.now.total c.args.least.billionths true in
    subst (All P) (sym (c.parted.ensures.beyond ∙ ap (past_limit c.args.limit) (c.as_slice.ensures ∙ c.in_ok-heavy.ensures)))
    (past_below P c.args.limit (numbers_where c.args.c.now.sums c.args.c.now.total c.args.least.billionths true c.args.order.now)
    (All-filter test P c.args.order.now (λ k d here. omega (arith, c.requires.below k d here, c.requires.fits.flats))))

pub portion_of-requires-3-clause-small : goal.portion_of-requires-3-clause-small
portion_of-requires-3-clause-small c =
    let size : ℕ → ℕ = λ n. nat_abs (sum_of_name c.args.c.now.sums.flat n) in
    let heavy = numbers_where c.args.c.now.sums c.args.c.now.total c.args.least.billionths true c.args.order.now in
    subst (λ (ns : List ℕ). sum_by size ns < 2 ^ 63) (sym (c.parted.ensures.beyond ∙ ap (past_limit c.args.limit) (c.as_slice.ensures ∙ c.in_ok-heavy.ensures)))
    (omega (arith, c.requires.small, past_fewer size c.args.limit heavy, fewer (is_where c.args.c.now.sums c.args.c.now.total c.args.least.billionths true) size c.args.order.now))

-- those that are shown
pub portion_of-requires-4-clause-below : goal.portion_of-requires-4-clause-below
portion_of-requires-4-clause-below c =
    let P = λ (n : ℕ). n < length c.args.c.now.sums.flat in
    let test = is_where c.args.c.now.sums c.args.c.now.total c.args.least.billionths true in
    subst (All P) (sym (c.parted.ensures.shown ∙ ap (shown_keys c.args.limit) (c.as_slice.ensures ∙ c.in_ok-heavy.ensures)))
    (shown_below P c.args.limit (numbers_where c.args.c.now.sums c.args.c.now.total c.args.least.billionths true c.args.order.now)
    (All-filter test P c.args.order.now (λ k d here. omega (arith, c.requires.below k d here, c.requires.fits.flats))))

pub portion_of-requires-4-clause-small : goal.portion_of-requires-4-clause-small
portion_of-requires-4-clause-small c =
    let size : ℕ → ℕ = λ n. nat_abs (sum_of_name c.args.c.now.sums.flat n) in
    let heavy = numbers_where c.args.c.now.sums c.args.c.now.total c.args.least.billionths true c.args.order.now in
    subst (λ (ns : List ℕ). sum_by size ns < 2 ^ 63) (sym (c.parted.ensures.shown ∙ ap (shown_keys c.args.limit) (c.as_slice.ensures ∙ c.in_ok-heavy.ensures)))
    (omega (arith, c.requires.small, shown_fewer size c.args.limit heavy, fewer (is_where c.args.c.now.sums c.args.c.now.total c.args.least.billionths true) size c.args.order.now))
