use Rattle.std.proofs.Common.{subst}
use Rattle.pp_model.specs.Words.{IsCompact}
use Rattle.pp_count.proofs.Matching.{none_matched}
use Rattle.pp_count.proofs.matched.some_frame.Goals as goal

-- the pattern is in force
pub some_stack-requires-clause-table : goal.some_stack-requires-clause-table
some_stack-requires-clause-table c = c.requires.table c.in-Some.found c.in-Some.is

pub returns-then-not-reaches : goal.returns-then-not-reaches
returns-then-not-reaches c = λ f dropped kept pattern are.
    none_matched c.args.l.now.profile f (subst IsCompact c.get-compact.ensures.same c.get-compact.ensures.compact) c.args.found.now (c.requires.reach c.if-not-reaches.true) pattern are
    c.args.samples.now c.requires.refers
