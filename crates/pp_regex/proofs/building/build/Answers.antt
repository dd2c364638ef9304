use Rattle.pp_regex.proofs.Alike.{no_pattern_of_syntax, pattern_of_big}
use Rattle.pp_regex.proofs.building.build.Goals as goal

-- an error of syntax comes of a text that is no pattern
pub returns-in-Err-Syntax-clause-cause : goal.returns-in-Err-Syntax-clause-cause
returns-in-Err-Syntax-clause-cause c =
    let text = c.in-Ok.ensures.cases.0 in
    no_pattern_of_syntax c.args.text.now c.in-Err-Syntax.field-0 c.in-Err-Syntax.field-0-0 c.in-Err-Syntax.field-0-is
    (rw text at c.in-Err-Syntax.ensures.refused) (rw text at c.in-Err-Syntax.ensures.kind)

-- only a pattern is too big
pub returns-in-Err-CompiledTooBig-clause-cause : goal.returns-in-Err-CompiledTooBig-clause-cause
returns-in-Err-CompiledTooBig-clause-cause c =
    let utf8 = c.in-Ok.ensures.cases in
    pattern_of_big c.args.text.now (rw (c.in-Err-CompiledTooBig.field-0-is, utf8.0) at c.in-Err-CompiledTooBig.ensures.kind) utf8.1
