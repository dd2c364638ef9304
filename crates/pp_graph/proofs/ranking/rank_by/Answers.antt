use Rattle.std.proofs.Common.{◌≡◌, ◌<◌, ◌^◌, length, nat_abs, SFits, w64, to_z, of_z, rules, refl, sym, ap, subst, ◌∙◌, map, All, List, ℕ, sum_by}
use Rattle.std.proofs.lemmas.Int.{to_z-of_z}
use Rattle.pp_model.specs.declared.presentation.Sort.{Sort}
use Rattle.pp_model.specs.declared.profile.Profile.{Profile}
use Rattle.pp_graph.specs.declared.heavy.RankedRow.{RankedRow}
use Rattle.pp_graph.specs.Ranks.{AreRanked, sum_of_name}
use Rattle.pp_graph.specs.Trim.{shown_keys}
use Rattle.pp_graph.specs.Trimmed.{int_sum}
use Rattle.pp_graph.proofs.Reported.{numbers_below, numbers_small, ranked_of}
use Rattle.pp_graph.proofs.ranking.rank_by.Goals as goal

pub flat_sum-shown_flat-requires-clause-below : goal.flat_sum-shown_flat-requires-clause-below
flat_sum-shown_flat-requires-clause-below c =
    subst (λ n. All (λ k. k < n) c.as_slice.result.now) (sym c.requires.fits.flats)
    (subst (All (λ k. k < length c.args.counted.now.sums.names))
    (sym (c.as_slice.ensures ∙ c.in_ok-order.ensures ∙ ap (map (λ (r : RankedRow). r.number)) (c.first_rows.ensures ∙ ap (shown_keys c.args.limit) c.deref.ensures.value)))
    (numbers_below c.get-p.result.now c.args.sort c.args.counted.now.sums c.requires.fits c.args.counted.now.total c.args.least.billionths
    c.in_ok-heavy.heavy.rows.items c.in_ok-heavy.heavy.light c.args.limit c.in_ok-heavy.ensures))

pub flat_sum-shown_flat-requires-clause-small : goal.flat_sum-shown_flat-requires-clause-small
flat_sum-shown_flat-requires-clause-small c =
    subst (λ (xs : List ℕ). sum_by (λ n. nat_abs (sum_of_name c.args.counted.now.sums.flat n)) xs < 2 ^ 63)
    (sym (c.as_slice.ensures ∙ c.in_ok-order.ensures ∙ ap (map (λ (r : RankedRow). r.number)) (c.first_rows.ensures ∙ ap (shown_keys c.args.limit) c.deref.ensures.value)))
    (numbers_small c.get-p.result.now c.args.sort c.args.counted.now.sums c.requires.fits c.args.counted.now.total c.args.least.billionths
    c.in_ok-heavy.heavy.rows.items c.in_ok-heavy.heavy.light c.args.limit c.in_ok-heavy.ensures)

pub returns : goal.returns
returns c = λ v config column sort_is least_is counted.
    let fits : SFits w64 c.flat_sum-shown_flat.result = search rules in
    let ranked : AreRanked c.args.l.now.profile c.args.sort c.args.counted.now.sums c.args.counted.now.total c.args.least.billionths c.in_ok-heavy.heavy.rows.items c.in_ok-heavy.heavy.light =
    subst (λ (p : Profile). AreRanked p c.args.sort c.args.counted.now.sums c.args.counted.now.total c.args.least.billionths c.in_ok-heavy.heavy.rows.items c.in_ok-heavy.heavy.light) c.get-p.ensures.same c.in_ok-heavy.ensures in
    ranked_of c.args.l.now v config column c.args.limit c.args.counted.now c.in_ok-heavy.heavy.rows.items c.in_ok-heavy.heavy.light counted
    (subst (λ (s : Sort). AreRanked c.args.l.now.profile s c.args.counted.now.sums c.args.counted.now.total config.presentation.nodefraction.billionths c.in_ok-heavy.heavy.rows.items c.in_ok-heavy.heavy.light) (sym sort_is)
    (subst (λ n. AreRanked c.args.l.now.profile c.args.sort c.args.counted.now.sums c.args.counted.now.total n c.in_ok-heavy.heavy.rows.items c.in_ok-heavy.heavy.light) (sym least_is) ranked))
    _
    (c.in_ok-order.ensures ∙ ap (map (λ (r : RankedRow). r.number)) (c.first_rows.ensures ∙ ap (shown_keys c.args.limit) c.deref.ensures.value))
    (to_z-of_z w64 c.flat_sum-shown_flat.result fits ∙ c.flat_sum-shown_flat.ensures ∙ ap (λ (xs : List ℕ). int_sum (map (sum_of_name c.args.counted.now.sums.flat) xs)) c.as_slice.ensures)
    refl
    (c.len.ensures ∙ search rules)
