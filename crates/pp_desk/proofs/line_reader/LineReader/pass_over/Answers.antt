use Rattle.std.proofs.Common.{◌≡◌, ◌∙◌, [], arith, drop_of_length-le}
use Rattle.pp_desk.proofs.Coming.{passes_over}
use Rattle.pp_desk.proofs.line_reader.LineReader.pass_over.Goals as goal

-- the line is too long whatever its bytes are
pub returns-then-held-gt-LINE_LIMIT-clause-same : goal.returns-then-held-gt-LINE_LIMIT-clause-same
returns-then-held-gt-LINE_LIMIT-clause-same c = λ left.
    let r = c.self.inside in
    let none = rw (← c.self.view_is) at c.requires.none in
    let empty : c.skip.new.self ≡ [] = c.skip.ensures ∙ drop_of_length-le r.window {i = c.len-held.result} (omega arith) in
    rw (← c.self.view_is) (passes_over r.passed r.window c.skip.new.self c.len-held.result r.room r.ended none (omega arith) c.len-held.ensures.value empty left)
