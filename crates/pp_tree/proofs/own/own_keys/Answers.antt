use Rattle.pp_tree.specs.Found.{has_own_number}
use Rattle.pp_tree.proofs.Marking.{gathered_more, gathered_all}
use Rattle.pp_tree.proofs.own.own_keys.Goals as goal

pub loop-number-preserved : goal.loop-number-preserved
loop-number-preserved c = record {
  of_profile = c.in_ok-add_sample.ensures.of_profile c.loop-number.invariant.of_profile;
  found = λ f find holds verdicts.
      gathered_more (has_own_number c.args.asked.now.l.now.profile f c.args.asked.now.config.now c.args.asked.now.column find) c.args.asked.now.l.now.profile c.args.kept.now c.loop-number.number-index 0 c.loop-number.keys.keys c.add_sample.new.keys.keys
      c.loop-number-test.true (c.in_ok-add_sample.ensures.found f find holds verdicts) (c.loop-number.invariant.found f find holds verdicts);
}

pub returns-clause-found : goal.returns-clause-found
returns-clause-found c = λ f find holds verdicts k.
    gathered_all (has_own_number c.args.asked.now.l.now.profile f c.args.asked.now.config.now c.args.asked.now.column find) c.args.asked.now.l.now.profile c.args.kept.now c.loop-number.number-index c.loop-number.keys.keys
    c.loop-number-test.false (c.loop-number.invariant.found f find holds verdicts) k
