use Rattle.std.proofs.Common.{◌≡◌, length, take}
use Rattle.std.specs.List.{flat_map}
use Rattle.pp_share.specs.Walk.{met_after, IsPlaced}
use Rattle.pp_share.proofs.ChangeLemmas.{changed_front}
use Rattle.pp_share.proofs.placing.place_each.Given as goal

-- what the items so far name is met, and they have their places
abbrev pub invariant-loop-index : goal.invariant-loop-index
invariant-loop-index g l = record {
  met_so_far : l.met ≡ met_after l.initial.met (flat_map g.T.Place.refs (take l.index l.initial.items));
  so_far : IsPlaced (λ met xs. changed_front (g.T.Place.placed met) xs l.index) l.met l.initial.items l.items;
  as_long : length l.items ≡ length l.initial.items;
}
