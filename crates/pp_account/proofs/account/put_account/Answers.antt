use Rattle.std.proofs.Common.{codes}
use Rattle.pp_units.specs.Head.{facts, facts_text}
use Rattle.pp_account.specs.Account.{account_heading}
use Rattle.pp_account.specs.Lines.{sample_portion_lines, node_portion_lines}
use Rattle.pp_account.proofs.Putting.{joined_five}
use Rattle.pp_account.proofs.account.put_account.Goals as goal

pub returns : goal.returns
returns c = λ f holds.
    joined_five c.put_node_rows.result c.args.out.now c.write_head.new.out c.put_heading.new.out c.put_sample_rows.new.out c.put_heading-2.new.out c.put_node_rows.new.out
    (facts_text (facts c.args.head.now)) (account_heading (codes "samples")) (sample_portion_lines f c.args.survey.now.config.now.filtering c.args.portions.now (facts c.args.head.now))
    (account_heading (codes "nodes")) (node_portion_lines c.args.nodes.now (facts c.args.head.now))
    c.in_ok-write_head.ensures.ok c.in_ok-put_heading.ensures (c.in_ok-put_sample_rows.ensures f holds) c.in_ok-put_heading-2.ensures c.put_node_rows.ensures
