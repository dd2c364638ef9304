use Rattle.std.proofs.Common.{◌∙◌}
use Rattle.pp_base.proofs.TextLemmas.{appended}
use Rattle.pp_export.proofs.Rows.{table_is}
use Rattle.pp_export.proofs.table.write_table.Goals as goal

pub returns-clause-ok : goal.returns-clause-ok
returns-clause-ok c = λ v config column limit f counted ranked holds.
    appended c.append.result c.append.new.self c.args.out.now c.put_rows.new.out _
    (rw (c.as_slice.ensures, c.in_ok-put_heading.ensures, c.new-text.ensures) at c.in_ok-put_rows.ensures
    ∙ table_is c.args.l.now v config column limit f c.args.c.now c.args.t.now c.args.unit.now counted ranked holds)
    c.append.ensures.ok
