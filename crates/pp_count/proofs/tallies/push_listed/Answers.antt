use Rattle.pp_count.proofs.Entries.{listed_more, listed_all}
use Rattle.pp_count.proofs.tallies.push_listed.Goals as goal

pub loop-number-preserved : goal.loop-number-preserved
loop-number-preserved c =
    listed_more c.args.listed.now c.loop-number.number _ c.loop-number.sums c.push_entry.new.sums c.loop-number-test.true c.loop-number.invariant c.in_ok-push_entry.ensures

pub returns : goal.returns
returns c = listed_all c.args.listed.now c.loop-number.number c.loop-number.sums c.loop-number-test.false c.loop-number.invariant
