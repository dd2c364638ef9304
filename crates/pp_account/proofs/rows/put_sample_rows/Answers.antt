use Rattle.std.proofs.Common.{codes}
use Rattle.std.specs.List.{flat_map}
use Rattle.pp_base.proofs.TextLemmas.{joined_four}
use Rattle.pp_units.specs.Head.{facts}
use Rattle.pp_account.specs.Account.{account_line, bare_row, dropping}
use Rattle.pp_account.specs.Lines.{filter_line, portion_line}
use Rattle.pp_account.proofs.rows.put_sample_rows.Goals as goal

pub returns : goal.returns
returns c = λ f holds.
    joined_four c.put_bare_row.result c.args.out.now c.put_row.new.out c.put_filter_rows.new.out c.put_row-2.new.out c.put_bare_row.new.out
    (portion_line (facts c.args.head.now) c.args.portions.now.loaded (codes "loaded"))
    (flat_map (filter_line f c.args.survey.now.config.now.filtering c.args.portions.now (facts c.args.head.now)) dropping)
    (portion_line (facts c.args.head.now) c.args.portions.now.left (codes "left"))
    (flat_map (account_line (facts c.args.head.now)) (bare_row c.args.portions.now.bare))
    c.in_ok-put_row.ensures (c.in_ok-put_filter_rows.ensures f holds) c.in_ok-put_row-2.ensures c.put_bare_row.ensures
