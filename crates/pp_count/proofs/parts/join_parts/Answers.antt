use Rattle.std.proofs.Common.{ap}
use Rattle.pp_count.specs.Tally.{tally_at}
use Rattle.pp_count.proofs.Joined.{none_added, next_room, next_added, parts_joined}
use Rattle.pp_count.proofs.parts.join_parts.Goals as goal

pub loop-part-init : goal.loop-part-init
loop-part-init c = none_added c.args.parts (tally_at c.in_ok-sofar.sofar.tallies) c.in_ok-sofar.sofar.kept c.in_ok-sofar.sofar.matched.slots c.in_ok-sofar.ensures.none c.in_ok-sofar.ensures.kept c.in_ok-sofar.ensures.matched

pub add-requires-clause-flat_fits : goal.add-requires-clause-flat_fits
add-requires-clause-flat_fits c = λ k.
    (next_room c.args.parts c.as_slice-part-items.result.now c.as_slice-part-items.ensures c.loop-part.part-index c.part-item.result c.loop-part-test.true c.part-item.is
    (tally_at c.loop-part.sofar.tallies) c.loop-part.sofar.kept c.loop-part.sofar.matched.slots c.requires c.loop-part.invariant k).flat

pub add-requires-clause-cum_fits : goal.add-requires-clause-cum_fits
add-requires-clause-cum_fits c = λ k.
    (next_room c.args.parts c.as_slice-part-items.result.now c.as_slice-part-items.ensures c.loop-part.part-index c.part-item.result c.loop-part-test.true c.part-item.is
    (tally_at c.loop-part.sofar.tallies) c.loop-part.sofar.kept c.loop-part.sofar.matched.slots c.requires c.loop-part.invariant k).cum

pub loop-part-preserved : goal.loop-part-preserved
loop-part-preserved c =
    next_added c.args.parts c.as_slice-part-items.result.now c.as_slice-part-items.ensures c.loop-part.part-index c.part-item.result c.loop-part-test.true c.part-item.is
    (tally_at c.loop-part.sofar.tallies) (tally_at c.add.new.self.tallies) c.loop-part.sofar.kept c.add.new.self.kept c.loop-part.sofar.matched.slots c.add.new.self.matched.slots c.loop-part.invariant
    c.in_ok-add.ensures.kept c.in_ok-add.ensures.tallies c.in_ok-add.ensures.matched

pub returns : goal.returns
returns c = λ l v config column names number ranges are.
    parts_joined l v config column names number ranges c.args.parts c.as_slice-part-items.result.now c.loop-part.part-index
    (tally_at c.loop-part.sofar.tallies) c.loop-part.sofar.kept c.loop-part.sofar.matched.slots c.in_ok-whole.whole c.as_slice-part-items.ensures c.loop-part-test.false c.loop-part.invariant
    c.in_ok-whole.ensures.kept (ap (λ m. m.slots) c.in_ok-whole.ensures.matched) c.in_ok-whole.ensures.sums are
