use Rattle.std.proofs.Common.{arith, ◌<◌}
use Rattle.pp_legacy.proofs.HolderLemmas.{none_placed, one_taken, all_taken, all_placed}
use Rattle.pp_legacy.proofs.holders.holders_of.Goals as goal

pub loop-mapping-init : goal.loop-mapping-init
loop-mapping-init c =
    none_placed c.args.mappings.now c.args.addresses.now c.in_ok-free.free c.in_ok-holders.holders.items c.in_ok-free.ensures
    (c.in_ok-holders.ensures.items_if_clones_equal (λ y is. is))

pub index_mut-requires : goal.index_mut-requires
index_mut-requires c =
    let taken = c.in-Some.ensures.taken in
    let known = c.loop-place.invariant.only taken.0 c.in-Some.place taken.1 in
    omega (arith, known.0, c.loop-place.invariant.len, c.loop-place.holders.ok)

pub loop-place-preserved : goal.loop-place-preserved
loop-place-preserved c =
    one_taken c.args.mappings.now c.args.addresses.now c.loop-mapping.mapping-index _ c.loop-mapping-test.true c.loop-place.free c.take_held.new.free
    c.loop-place.holders.items c.loop-place.invariant c.in-Some.place c.in-Some.ensures.taken

pub loop-mapping-preserved : goal.loop-mapping-preserved
loop-mapping-preserved c =
    all_taken c.args.mappings.now c.args.addresses.now c.loop-mapping.mapping-index _ c.loop-mapping-test.true c.loop-place.free c.take_held.new.free
    c.loop-place.holders.items c.loop-place.invariant c.in_default.ensures.taken

pub returns : goal.returns
returns c =
    all_placed c.args.mappings.now c.args.addresses.now c.loop-mapping.free c.loop-mapping.holders.items c.loop-mapping.mapping-index
    (omega arith) c.loop-mapping.invariant
