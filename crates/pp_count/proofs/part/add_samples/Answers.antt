use Rattle.std.proofs.Common.{rules, w64, ◌+◌, ◌<◌, ◌^◌, nat_abs, List, drop, map, sym, ap, ◌∙◌, subst}
use Rattle.std.proofs.lemmas.Int.{to_z-of_z}
use mir.Val.{SFits}
use Rattle.pp_model.specs.declared.profile.Sample.{Sample}
use Rattle.pp_count.specs.Tally.{tally_at, with_seen}
use Rattle.pp_count.specs.Edges.{counted_keys}
use Rattle.pp_count.specs.Scope.{over_of, samples_in_scope, HasTotals}
use Rattle.pp_count.specs.Seeing.{filtered_stack, keys_of_stack}
use Rattle.pp_stack.specs.Runs.{kept_if}
use Rattle.pp_count.proofs.Chosen.{dropped_at, dropped_within, dropped_size}
use Rattle.pp_count.proofs.Ranges.{name_of, room, some_is, counted_none, counted_kept, counted_dropped}
use Rattle.pp_count.proofs.Totals.{scope_totals_none, totals_next}
use Rattle.pp_count.proofs.part.add_samples.Goals.{then-left+in_ok-add_seen+in_ok-push, else-left}
use Rattle.pp_count.proofs.part.add_samples.Goals as goal

pub loop-index-init : goal.loop-index-init
loop-index-init c = (
  counted_none c.args.scope.now c.args.first (tally_at c.args.tallies.now) c.new-kept.result c.requires.none c.new-kept.ensures,
  λ whole f holds. scope_totals_none c.args.scope.now.l.now.profile f c.args.scope.now.config.now c.args.scope.now.column c.args.totals.now c.requires.nothing,
)

pub totals_of-requires-clause-left : goal.totals_of-requires-clause-left
totals_of-requires-clause-left c = λ f holds.
    some_is c.args.scope.now (filtered_stack c.args.scope.now.l.now.profile f c.args.scope.now.config.now.filtering c.sample_at-sample.result.now) c.in_ok-left.left
    (map (name_of c.args.scope.now) c.see.new.keys.items) (c.in_ok-left.ensures.seen f holds)

pub add_seen-requires-clause-cum_fits : goal.add_seen-requires-clause-cum_fits
add_seen-requires-clause-cum_fits c = λ k.
    let all : List Sample = samples_in_scope c.args.scope.now in
    let fits : SFits w64 c.selected-value.result = search rules in
    subst (λ v. nat_abs (tally_at c.loop-index.tallies k).cum + nat_abs v < 2 ^ 63) (sym (to_z-of_z w64 c.selected-value.result fits ∙ c.selected-value.ensures))
    (room c.args.scope.now c.args.first c.loop-index.index (drop c.args.first all) c.sample_at-sample.result.now (tally_at c.loop-index.tallies) c.loop-index.kept
    (dropped_within all c.args.first c.args.count c.loop-index.index c.requires.within c.loop-index-test.true) (dropped_at all c.args.first c.loop-index.index c.sample_at-sample.result.now c.sample_at-sample.ensures.is)
    (dropped_size c.args.scope.now all c.args.first c.requires.countable.fits) c.loop-index.invariant.0 k).0

pub add_seen-requires-clause-flat_fits : goal.add_seen-requires-clause-flat_fits
add_seen-requires-clause-flat_fits c = λ k.
    let all : List Sample = samples_in_scope c.args.scope.now in
    let fits : SFits w64 c.selected-value.result = search rules in
    subst (λ v. nat_abs (tally_at c.loop-index.tallies k).flat + nat_abs v < 2 ^ 63) (sym (to_z-of_z w64 c.selected-value.result fits ∙ c.selected-value.ensures))
    (room c.args.scope.now c.args.first c.loop-index.index (drop c.args.first all) c.sample_at-sample.result.now (tally_at c.loop-index.tallies) c.loop-index.kept
    (dropped_within all c.args.first c.args.count c.loop-index.index c.requires.within c.loop-index-test.true) (dropped_at all c.args.first c.loop-index.index c.sample_at-sample.result.now c.sample_at-sample.ensures.is)
    (dropped_size c.args.scope.now all c.args.first c.requires.countable.fits) c.loop-index.invariant.0 k).1

pub loop-index-preserved : goal.loop-index-preserved
loop-index-preserved c =
    let all : List Sample = samples_in_scope c.args.scope.now in
    let here = dropped_within all c.args.first c.args.count c.loop-index.index c.requires.within c.loop-index-test.true in
    let at = dropped_at all c.args.first c.loop-index.index c.sample_at-sample.result.now c.sample_at-sample.ensures.is in
    let totals = totals_next c.args.scope.now (drop c.args.first all) c.loop-index.index c.sample_at-sample.result.now c.loop-index.totals c.totals_of.result c.plus.result here at
    c.plus.ensures c.loop-index.invariant.1 c.totals_of.ensures in
    let fits : SFits w64 c.selected-value.result = search rules in
    let value = to_z-of_z w64 c.selected-value.result fits ∙ c.selected-value.ensures in
    elim c.if-left.branch [
      | then-left+in_ok-add_seen+in_ok-push w ↦
          rw (w.tallies-is, w.kept-is, w.in_ok-push.ensures.ok) (
            counted_kept c.args.scope.now c.args.first c.loop-index.index (drop c.args.first all) c.sample_at-sample.result.now c.see.new.keys.items (tally_at c.loop-index.tallies) _ c.loop-index.kept
                here at
                (λ f holds. c.in_ok-left.ensures.seen f holds ∙ ap (λ b. kept_if b (map (name_of c.args.scope.now) c.see.new.keys.items)) w.if-left.true)
                c.in_ok-left.ensures.below (rw (w.deref.ensures.value, value) at w.in_ok-add_seen.ensures) c.loop-index.invariant.0,
            totals,
          )
      | else-left w ↦
          rw (w.tallies-is, w.kept-is) (
            counted_dropped c.args.scope.now c.args.first c.loop-index.index (drop c.args.first all) c.sample_at-sample.result.now c.see.new.keys.items (tally_at c.loop-index.tallies) c.loop-index.kept
                here at
                (λ f holds. c.in_ok-left.ensures.seen f holds ∙ ap (λ b. kept_if b (map (name_of c.args.scope.now) c.see.new.keys.items)) w.if-left.false)
                c.loop-index.invariant.0,
            totals,
          )
    ]
