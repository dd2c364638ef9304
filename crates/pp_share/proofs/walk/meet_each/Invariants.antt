use Rattle.std.proofs.Common.{◌≡◌, take}
use Rattle.std.specs.List.{flat_map}
use Rattle.pp_share.specs.Walk.{met_after}
use Rattle.pp_share.proofs.walk.meet_each.Given as goal

abbrev pub invariant-loop-item : goal.invariant-loop-item
invariant-loop-item g l =
    l.met ≡ met_after l.initial.met (flat_map g.T.Refers.refs (take l.item-index l.items))
