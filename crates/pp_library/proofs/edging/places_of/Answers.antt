use Rattle.std.proofs.Common.{ℕ, arith, subst}
use Rattle.pp_library.specs.Places.{HasRowPlaces}
use Rattle.pp_library.proofs.PlaceLemmas.{placed_more}
use Rattle.pp_library.proofs.edging.places_of.Goals as goal

-- the next row gets its place
pub loop-row-preserved : goal.loop-row-preserved
loop-row-preserved c =
    placed_more c.args.names c.loop-row.row c.args.order.now c.loop-row.places c.loop-row-test.true
    (c.requires.below c.loop-row.row 0 c.loop-row-test.true) c.requires.once c.loop-row.invariant

-- at the end each row has it
pub returns : goal.returns
returns c =
    subst (λ (n : ℕ). HasRowPlaces c.args.names c.args.order.now n c.loop-row.places) (omega (arith, c.loop-row-test.false, c.loop-row.auto.row-end)) c.loop-row.invariant
