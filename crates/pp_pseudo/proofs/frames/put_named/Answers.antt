use Rattle.std.proofs.Common.{List, ℕ, subst}
use Rattle.pp_base.proofs.TextLemmas.{then_ok}
use Rattle.pp_pseudo.specs.Names.{IsNumberedName}
use Rattle.pp_pseudo.specs.Framed.{placing}
use Rattle.pp_pseudo.proofs.AddingFrames.{adds_name}
use Rattle.pp_pseudo.proofs.frames.put_named.Goals as goal

-- the name has its number, and the number's function its location
pub returns : goal.returns
returns c =
    let frames = c.args.frames.now in
    then_ok c.push.result
    (adds_name c.args.p.now c.requires.valid c.requires.compact (placing frames c.args.ids.now)
    (placing (record frames { names = c.number.new.self; places = c.place_line.new.places }) c.push.new.self)
    frames.name c.in_ok-number.number c.name_id.result c.in_ok-id.id c.name_id.ensures
    (subst (λ (name : List ℕ). IsNumberedName frames.names c.number.new.self name c.in_ok-number.number) c.as_slice.ensures c.in_ok-number.ensures.numbered)
    c.in_ok-id.ensures.places c.in_ok-id.ensures.front c.in_ok-id.ensures.entry)
    c.push.ensures.ok
