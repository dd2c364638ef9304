use Rattle.std.proofs.Common.{◌≡◌, ◌<◌, ◌^◌, option_map, ap, ◌∙◌, subst}
use Rattle.pp_count.specs.Counts.{samples_of_total}
use Rattle.pp_count.specs.Scope.{samples_in_scope, size_of}
use Rattle.pp_count.specs.Totals.{AreTotals}
use Rattle.pp_count.proofs.Chosen.{all_samples}
use Rattle.pp_count.proofs.Totals.{total_is}
use Rattle.pp_count.proofs.counted.count_whole.Goals as goal

pub returns-in-Ok-clause-total : goal.returns-in-Ok-clause-total
returns-in-Ok-clause-total g c = λ f holds.
    let scope = c.args.scope.now in
    let p = scope.l.now.profile in
    let config = scope.config.now in
    let totals = c.in_ok-sofar.sofar.totals in
    let all : samples_in_scope scope ≡ p.sample = all_samples scope (λ i. option_map (λ numbers. numbers.now) (c.requires.whole i)) in
    c.total-total.ensures
    ∙ total_is p f config scope.column totals (subst (λ ss. size_of scope ss < 2 ^ 63) all c.requires.countable.fits)
    (subst (λ ss. AreTotals p config.presentation scope.column (samples_of_total p f config ss) totals) all (c.in_ok-sofar.ensures.totals c.requires.whole f holds))
