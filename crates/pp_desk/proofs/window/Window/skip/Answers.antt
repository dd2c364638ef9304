use Rattle.std.proofs.Common.{◌≤◌, ◌-◌, arith, ap, drop, ◌∙◌}
use Rattle.pp_desk.proofs.Windows.{length_between, between_later}
use Rattle.pp_desk.proofs.window.Window.skip.Goals as goal

pub returns : goal.returns
returns c =
    let w = c.self.inside in
    let i = c.self.invariant in
    let h : c.args.count ≤ w.end - w.start = rw (← c.self.view_is, length_between w.buffer.items w.start w.end i.0 (omega arith)) at c.requires in
    between_later w.buffer.items w.start w.end c.args.count h ∙ ap (drop c.args.count) c.self.view_is
