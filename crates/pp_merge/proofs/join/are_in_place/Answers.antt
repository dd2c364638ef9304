use Rattle.std.proofs.Common.{◌≡◌, ◌+◌, ◌<◌, length, below_more, sym, ap, ◌∙◌, arith}
use Rattle.std.proofs.lemmas.List.{get_or-map, length-map}
use Rattle.pp_merge.proofs.join.are_in_place.Goals as goal

-- one entry more has its place as its id
pub loop-place-preserved : goal.loop-place-preserved
loop-place-preserved g c =
    let items = c.args.items.now in
    let item = c.index-items-place.result in
    let place = c.loop-place.place in
    let within : place < length items = omega (arith, c.loop-place-test.true) in
    let at : c.id-id.result ≡ place + 1 = omega arith in
    below_more _ _ c.loop-place.invariant
    (get_or-map g.T.HasId.id_of items place item 0 within ∙ ap g.T.HasId.id_of (sym c.index-items-place.is) ∙ sym c.id-id.ensures ∙ at)

-- and so has each
pub returns : goal.returns
returns g c = λ k within.
    c.loop-place.invariant k (omega (arith, within, c.loop-place-test.false, c.loop-place.auto.place-end, length-map c.args.items.now g.T.HasId.id_of))
