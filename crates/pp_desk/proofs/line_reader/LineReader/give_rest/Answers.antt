use Rattle.std.proofs.Common.{◌∙◌, arith, sym}
use Rattle.pp_desk.proofs.Giving.{gives_end, gives_last}
use Rattle.pp_desk.proofs.line_reader.LineReader.give_rest.Goals as goal

pub returns-in-0-clause-line : goal.returns-in-0-clause-line
returns-in-0-clause-line c = gives_end c.args.self.now c.requires.ended c.requires.room c.requires.none (sym c.pending_len.ensures ∙ c.in-0.is)

pub returns-in_default-clause-line : goal.returns-in_default-clause-line
returns-in_default-clause-line c = gives_last c.args.self.now c.requires.ended c.requires.room c.requires.none c.give.new.self c.give.result (omega arith) (rw c.pending_len.ensures at c.give.ensures)
