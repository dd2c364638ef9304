use Rattle.std.proofs.Common.{ap}
use Rattle.pp_base.proofs.TextLemmas.{joined_two, put_is}
use Rattle.pp_units.specs.Rows.{name_end}
use Rattle.pp_units.specs.Shown.{shown}
use Rattle.pp_grain.specs.Keys.{key_written}
use Rattle.pp_grain.specs.Naming.{name_text}
use Rattle.pp_count.specs.Table.{written_key}
use Rattle.pp_graph.proofs.KeyRowLemmas.{name_written}
use Rattle.pp_top.specs.Compare.{difference_columns}
use Rattle.pp_top.specs.ComparedRows.{figures_at}
use Rattle.pp_top.proofs.compared_rows.put_row.Goals as goal

pub returns : goal.returns
returns c =
    joined_two c.put_name.result c.args.out.now c.put_columns.new.out c.put_name.new.out
    (difference_columns (shown c.args.table.now.head.now.unit) (figures_at c.args.table.now.sort c.args.table.now.sums.now c.args.table.now.base.now c.args.number))
    (name_end (name_text (written_key c.args.table.now.l.now.profile c.args.table.now.sums.now.names c.args.number)))
    (rw c.figures-figures.ensures at c.in_ok-put_columns.ensures)
    (put_is c.put_name.result c.put_name.new.out c.put_columns.new.out
    (name_end (name_text (key_written c.args.table.now.l.now.profile c.key.result)))
    (name_end (name_text (written_key c.args.table.now.l.now.profile c.args.table.now.sums.now.names c.args.number)))
    (ap (λ k. name_end (name_text k)) (name_written c.args.table.now.l.now.profile c.args.table.now.sums.now.names c.args.number c.key.result c.key.ensures)) c.put_name.ensures)
