use Rattle.std.proofs.Common.{subst}
use Rattle.pp_base.proofs.TextLemmas.{then_ok}
use Rattle.pp_pseudo.specs.Framed.{placing, AddsFrames}
use Rattle.pp_pseudo.proofs.AddingFrames.{adds_nothing, unnamed, named}
use Rattle.pp_pseudo.proofs.frames.put_key.Goals as goal

-- no label has the key
pub returns-then-not-found : goal.returns-then-not-found
returns-then-not-found c =
    let p = c.args.p.now in
    let here = placing c.args.frames.now c.args.ids.now in
    subst (AddsFrames p here here)
    (unnamed p c.args.labels.now c.args.key.now c.put_frame_name.new.name c.in_ok-found.found c.in_ok-found.ensures c.if-not-found.true)
    (adds_nothing p here)

-- the frame of its name
pub returns : goal.returns
returns c =
    let p = c.args.p.now in
    then_ok c.put_named.result
    (subst (AddsFrames p (placing c.args.frames.now c.args.ids.now) (placing c.put_named.new.frames c.put_named.new.ids))
    (named p c.args.labels.now c.args.key.now c.put_frame_name.new.name c.in_ok-found.found c.in_ok-found.ensures c.if-not-found.false))
    c.put_named.ensures
