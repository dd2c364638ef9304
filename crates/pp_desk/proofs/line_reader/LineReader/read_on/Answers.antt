use Rattle.std.proofs.Common.{arith, ◌∙◌}
use Rattle.pp_desk.proofs.Going.{taken_taken}
use Rattle.pp_desk.proofs.line_reader.LineReader.read_on.Goals as goal

-- what one read takes more is taken of the front too
pub returns-in-Some-clause-taken : goal.returns-in-Some-clause-taken
returns-in-Some-clause-taken g c = taken_taken _ _ _ c.reading.invariant.taken c.take_more.ensures.taken

pub returns-in-End-clause-taken : goal.returns-in-End-clause-taken
returns-in-End-clause-taken g c = taken_taken _ _ _ c.reading.invariant.taken c.take_more.ensures.taken

pub returns-in-Failed-clause-taken : goal.returns-in-Failed-clause-taken
returns-in-Failed-clause-taken g c = taken_taken _ _ _ c.reading.invariant.taken c.take_more.ensures.taken

-- no line has ended in what was taken
pub reading-preserved : goal.reading-preserved
reading-preserved g c = record {
  none = c.in_default.ensures.found;
  reading = c.in-Got.ensures.adds.2;
  same = c.take_more.ensures.same ∙ c.reading.invariant.same;
  taken = taken_taken _ _ _ c.reading.invariant.taken c.take_more.ensures.taken;
  later = omega arith;
}
