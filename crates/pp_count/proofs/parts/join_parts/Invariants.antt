use Rattle.pp_count.specs.Tally.{tally_at}
use Rattle.pp_count.proofs.Joined.{AddedTo}
use Rattle.pp_count.proofs.parts.join_parts.Given as goal

-- the parts so far are added
abbrev pub invariant-loop-part : goal.invariant-loop-part
invariant-loop-part l = AddedTo l.fn.parts l.part-index (tally_at l.sofar.tallies) l.sofar.kept l.sofar.matched.slots
