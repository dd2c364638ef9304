use Rattle.std.proofs.Common.{ap, ◌∙◌}
use Rattle.pp_base.proofs.TextLemmas.{appended}
use Rattle.pp_units.specs.Head.{facts}
use Rattle.pp_account.specs.Lines.{account_lines}
use Rattle.pp_account.proofs.Lining.{text_is}
use Rattle.pp_account.proofs.account.write_account.Goals as goal

pub returns-clause-ok : goal.returns-clause-ok
returns-clause-ok c = λ f holds.
    let w = c.args.survey.now in
    appended c.append.result c.append.new.self c.args.out.now c.put_account.new.out _
    (rw c.new-text.ensures at (c.in_ok-put_account.ensures f holds)
    ∙ ap (λ d. account_lines f w.config.now.filtering d c.in_ok-nodes.nodes (facts c.args.head.now)) (c.in_ok-portions.ensures f holds)
    ∙ text_is w.l.now.profile f w.config.now w.column (facts c.args.head.now) c.args.limit c.in_ok-nodes.nodes (c.in_ok-nodes.ensures f holds))
    c.append.ensures.ok
