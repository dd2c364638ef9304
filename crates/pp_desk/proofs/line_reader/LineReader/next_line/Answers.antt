use Rattle.pp_desk.proofs.Giving.{gives_line, gives_full, full_for_good}
use Rattle.pp_desk.proofs.line_reader.LineReader.next_line.Goals as goal

pub returns-in-Line-clause-line : goal.returns-in-Line-clause-line
returns-in-Line-clause-line g c =
    let f = c.in-Line.ensures in
    rw (← f.same) (gives_line c.find.new.self c.give.new.self c.in-Line.len c.give.result f.found.0 c.give.ensures (g.I.Source.left c.find.new.input))

pub returns-in-Ended-clause-line : goal.returns-in-Ended-clause-line
returns-in-Ended-clause-line g c = rw (← c.in-Ended.ensures.same) (c.give_rest.ensures.line (g.I.Source.left c.find.new.input))

pub returns-in-Full-clause-line : goal.returns-in-Full-clause-line
returns-in-Full-clause-line g c =
    let f = c.in-Full.ensures in
    rw (← f.same) (gives_full c.find.new.self f.found.0 f.found.1 f.found.2 (g.I.Source.left c.find.new.input))

pub returns-in-Full-clause-last : goal.returns-in-Full-clause-last
returns-in-Full-clause-last g c = λ _. let f = c.in-Full.ensures.found in full_for_good c.find.new.self f.0 f.1 f.2
