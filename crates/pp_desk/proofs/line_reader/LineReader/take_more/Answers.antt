use Rattle.std.proofs.Common.{◌≡◌, ◌+◌, ◌-◌, ◌∙◌, length, arith}
use Rattle.pp_desk.proofs.Coming.{more_held, end_met}
use Rattle.pp_desk.proofs.Going.{took_some, took_none}
use Rattle.pp_desk.proofs.line_reader.LineReader.take_more.Goals as goal

-- the bytes that were read were to come
pub returns-in-Got-clause-same : goal.returns-in-Got-clause-same
returns-in-Got-clause-same g c =
    let e = c.in-Got.ensures.bytes in
    let same = rw (← c.self.view_is) at c.pass_over.ensures.same in
    let reading = rw (← c.self.view_is) at c.pass_over.ensures.ended in
    let n : c.self.inside.room ≡ length e.0 + (c.self.inside.room - c.in-Got.count) = omega arith in
    rw e.3 (more_held c.args.self.now _ same _ _ (reading ∙ c.requires.reading) e.0 (c.self.inside.room - c.in-Got.count) n e.2.next)

pub returns-in-End-clause-same : goal.returns-in-End-clause-same
returns-in-End-clause-same g c =
    let e = c.in-End.ensures.bytes in
    let same = rw (← c.self.view_is) at c.pass_over.ensures.same in
    let reading = rw (← c.self.view_is) at c.pass_over.ensures.ended in
    rw e.2 (end_met c.args.self.now _ same _ _ (reading ∙ c.requires.reading) e.0 e.1)

-- they were taken of the front
pub returns-in-Got-clause-taken : goal.returns-in-Got-clause-taken
returns-in-Got-clause-taken g c =
    let e = c.in-Got.ensures.bytes in
    let room = rw (← c.self.view_is) at c.pass_over.ensures.room in
    took_some _ _ e.0 _ _ e.2.next (omega (arith, room))

pub returns-in-End-clause-taken : goal.returns-in-End-clause-taken
returns-in-End-clause-taken g c = took_none _ _ _ _ c.in-End.ensures.bytes.1 (rw (← c.self.view_is) at c.pass_over.ensures.room)

pub returns-in-Failed-clause-taken : goal.returns-in-Failed-clause-taken
returns-in-Failed-clause-taken g c = took_none _ _ _ _ c.in-Failed.ensures.bytes.0 (rw (← c.self.view_is) at c.pass_over.ensures.room)
