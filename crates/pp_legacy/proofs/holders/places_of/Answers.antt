use Rattle.std.specs.Prelude.{slice_index}
use Rattle.pp_legacy.proofs.HolderLemmas.{not_at, one_more_free}
use Rattle.pp_legacy.proofs.holders.places_of.Goals as goal

pub loop-place-preserved : goal.loop-place-preserved
loop-place-preserved c =
    let updates = c.in_ok-insert.ensures.updates in
    one_more_free c.args.addresses.now c.loop-place.place _ _ c.requires c.loop-place-test.true c.loop-place.invariant updates.1
    (λ q other. updates.2 q (not_at (slice_index c.args.addresses.now c.loop-place.place) q other))
