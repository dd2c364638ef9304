use Rattle.std.proofs.Common.{◌≡◌, ◌≤◌, ◌+◌, ◌-◌, ◌∙◌, ap, arith, length, take, length-take}
use borrow.Rule.Slice.PartMut.{put_mid}
use Rattle.std.proofs.lemmas.List.{with_items_is}
use Rattle.pp_desk.proofs.Windows.{between_more, length_put}
use Rattle.pp_desk.proofs.window.Window.fill.Goals as goal

-- what was read stands behind what was held
pub returns-in-Got-clause-bytes : goal.returns-in-Got-clause-bytes
returns-in-Got-clause-bytes g c =
    let e = c.in-Got.ensures.bytes in
    let f = c.move_to_front.ensures in
    let v = c.deref_mut.ensures.value in
    let len = c.self.inside.end - c.self.inside.start in
    let held = ap (take (c.self.inside.end - c.self.inside.start)) v ∙ f.front ∙ c.self.view_is in
    let count : length (take c.in-Got.count c.read-answer.new.buf) ≡ c.in-Got.count = omega (arith, length-take c.in-Got.count c.read-answer.new.buf) in
    let all = length_put c.deref_mut.result.now c.read-answer.new.buf len c.min-most.result (omega (arith, ap length v)) (omega arith) ∙ c.deref_mut.ensures.len in
    let few : c.in-Got.count ≤ c.args.most = omega arith in (
      take c.in-Got.count c.read-answer.new.buf,
      count,
      record { some = omega arith; few = omega arith; next = e.2 },
      rw (with_items_is c.move_to_front.new.buffer (put_mid len (len + c.min-most.result - len) c.deref_mut.result.now c.read-answer.new.buf) all)
          (between_more c.deref_mut.result.now c.read-answer.new.buf c.args.self.now len c.min-most.result c.in-Got.count held (omega (arith, ap length v)) e.1),
    )
