use Rattle.std.proofs.Common.{◌+◌, set, sym, subst, arith}
use Rattle.pp_share.specs.MetPlaces.{HoldsPlaces}
use Rattle.pp_share.proofs.MetLemmas.{places_kept, places_set}
use Rattle.pp_share.proofs.met.Met.place_new.Goals as goal

-- the table has a number for the id
pub invariant_of-self-then-index-len : goal.invariant_of-self-then-index-len
invariant_of-self-then-index-len c =
    let met = c.in_ok-place.ensures in
    subst (λ keys. HoldsPlaces keys (set c.self.inside.places.items c.args.id (c.in_ok-place.place + 1))) (sym met.keys)
    (places_set c.self.inside.ids.keys c.self.inside.places.items c.args.id c.in_ok-place.place
    c.self.invariant c.if-id-eq0.false met.index (omega arith))

-- the id is past the table
pub invariant_of-self-else-index-len : goal.invariant_of-self-else-index-len
invariant_of-self-else-index-len c =
    subst (λ keys. HoldsPlaces keys c.self.inside.places.items) (sym c.in_ok-place.ensures.keys)
    (places_kept c.self.inside.ids.keys c.self.inside.places.items c.args.id c.self.invariant)
