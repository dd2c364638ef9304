use Rattle.std.proofs.Common.{subst}
use Rattle.pp_model.specs.Words.{NoRuleFails}
use Rattle.pp_model.proofs.RuleLemmas.{refers_from_valid}
use Rattle.pp_tour.proofs.stack.put_sample.Goals as goal

-- a sample of a valid profile refers to its locations
pub filter_stack-requires-clause-sample : goal.filter_stack-requires-clause-sample
filter_stack-requires-clause-sample c =
    refers_from_valid c.args.l.now.profile c.args.s.now (subst NoRuleFails c.get-p.ensures.same c.get-p.ensures.valid) c.requires.sample
