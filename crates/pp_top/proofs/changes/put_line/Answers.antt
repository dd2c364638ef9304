use Rattle.std.proofs.Common.{ap}
use Rattle.pp_base.proofs.TextLemmas.{joined_two, put_is}
use Rattle.pp_grain.specs.Keys.{key_written}
use Rattle.pp_grain.specs.Naming.{name_text}
use Rattle.pp_count.specs.Table.{written_key}
use Rattle.pp_graph.proofs.KeyRowLemmas.{name_written}
use Rattle.pp_cells.specs.Cells.{cell_text, last_cell}
use Rattle.pp_top.specs.Changes.{exact_figures}
use Rattle.pp_top.specs.ComparedRows.{figures_at}
use Rattle.pp_top.proofs.changes.put_line.Goals as goal

pub returns : goal.returns
returns c =
    let t = c.args.table.now in
    joined_two c.put_name_cell.result c.args.out.now c.put_figures.new.out c.put_name_cell.new.out
    (exact_figures (figures_at t.sort t.sums.now t.base.now c.args.number))
    (last_cell (cell_text (name_text (written_key t.l.now.profile t.sums.now.names c.args.number))))
    (rw c.figures-d.ensures at c.in_ok-put_figures.ensures)
    (put_is c.put_name_cell.result c.put_name_cell.new.out c.put_figures.new.out
    (last_cell (cell_text (name_text (key_written t.l.now.profile c.key.result))))
    (last_cell (cell_text (name_text (written_key t.l.now.profile t.sums.now.names c.args.number))))
    (ap (λ k. last_cell (cell_text (name_text k))) (name_written t.l.now.profile t.sums.now.names c.args.number c.key.result c.key.ensures)) c.put_name_cell.ensures)
