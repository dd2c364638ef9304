use Rattle.std.proofs.Common.{◌∙◌}
use Rattle.pp_stack.proofs.TableLemmas.{some_known, some_is}
use Rattle.pp_stack.proofs.samples.finds_location.Goals as goal

-- the table has the location
pub finds_line-requires-in-Some : goal.finds_line-requires-in-Some
finds_line-requires-in-Some c =
    some_known c.args.l.now.profile c.args.found.now _ c.args.location (c.requires.table c.in-Some.table c.in-Some.is) c.requires.within

-- its answer is that of its frames
pub returns-in-Some : goal.returns-in-Some
returns-in-Some c = λ find are.
    c.finds_line-in-Some.ensures
    ∙ some_is c.args.l.now.profile c.args.found.now _ c.args.place c.args.location (c.requires.table c.in-Some.table c.in-Some.is) c.requires.within find are
