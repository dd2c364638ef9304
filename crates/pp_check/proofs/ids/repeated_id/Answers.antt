use Rattle.std.proofs.Common.{◌≡◌, ◌<◌, length, map, ◌∙◌, arith}
use Rattle.std.proofs.lemmas.List.{length-map}
use Rattle.pp_check.proofs.Scans.{id_at, found_again, scanned_more, scanned_all}
use Rattle.pp_check.proofs.ids.repeated_id.Goals as goal

pub returns-then-not-added-clause-fault : goal.returns-then-not-added-clause-fault
returns-then-not-added-clause-fault g c =
    let ids = map g.T.HasId.id_of c.args.items.now in
    let within : c.loop-index.index < length c.args.items.now = omega (arith, c.loop-index-test.true) in
    let inside : c.loop-index.index < length ids = omega (arith, within, length-map c.args.items.now g.T.HasId.id_of) in
    found_again c.loop-index.known ids c.loop-index.index c.id-id.result c.in_ok-added.added inside c.loop-index.invariant
    (c.id-id.ensures ∙ id_at g.T.HasId.id_of c.args.items.now c.loop-index.index _ within c.index-items-index.is)
    c.in_ok-added.ensures.added c.if-not-added.true

pub loop-index-preserved : goal.loop-index-preserved
loop-index-preserved g c =
    let ids = map g.T.HasId.id_of c.args.items.now in
    let within : c.loop-index.index < length c.args.items.now = omega (arith, c.loop-index-test.true) in
    let inside : c.loop-index.index < length ids = omega (arith, within, length-map c.args.items.now g.T.HasId.id_of) in
    scanned_more c.loop-index.known c.insert.new.self ids c.loop-index.index c.id-id.result c.in_ok-added.added inside c.loop-index.invariant
    (c.id-id.ensures ∙ id_at g.T.HasId.id_of c.args.items.now c.loop-index.index _ within c.index-items-index.is)
    c.in_ok-added.ensures.added c.if-not-added.false c.in_ok-added.ensures.after

pub returns-clause-fault : goal.returns-clause-fault
returns-clause-fault g c =
    let ids = map g.T.HasId.id_of c.args.items.now in
    let past : c.loop-index.index ≡ length ids =
    omega (arith, c.loop-index-test.false, c.loop-index.auto.index-end, length-map c.args.items.now g.T.HasId.id_of) in
    scanned_all c.loop-index.known ids c.loop-index.index past c.loop-index.invariant
