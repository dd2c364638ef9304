use Rattle.std.proofs.Common.{[], sym, subst}
use Rattle.pp_share.specs.MetPlaces.{HoldsPlaces}
use Rattle.pp_share.proofs.MetLemmas.{none_placed}
use Rattle.pp_share.proofs.met.Met.new.Goals as goal

pub invariant_of-result : goal.invariant_of-result
invariant_of-result c =
    subst (λ keys. HoldsPlaces keys c.in_ok-places.places.items) (sym c.with_hasher.ensures.empty)
    (subst (HoldsPlaces []) (sym (c.in_ok-places.ensures.items_if_clones_equal (λ y is. is))) (none_placed c.args.room))
