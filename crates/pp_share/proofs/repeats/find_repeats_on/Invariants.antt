use Rattle.pp_share.specs.Renumbered.{new_ids}
use Rattle.pp_share.specs.Repeats.{FindsBelow}
use Rattle.pp_share.proofs.repeats.find_repeats_on.Given as goal

-- the repeats of the classes so far
abbrev pub invariant-loop-class : goal.invariant-loop-class
invariant-loop-class g l = FindsBelow (new_ids l.by) l.samples l.class l.all.items
