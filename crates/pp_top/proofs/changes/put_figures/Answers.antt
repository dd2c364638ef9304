use Rattle.std.proofs.Common.{w64, FitsSigned, rules}
use Rattle.std.specs.Fmt.{signed_decimal}
use Rattle.std.proofs.lemmas.Int.{to_z-of_z}
use Rattle.pp_base.proofs.TextLemmas.{joined}
use Rattle.pp_cells.specs.Cells.{cell}
use Rattle.pp_top.proofs.changes.put_figures.Goals as goal

pub returns : goal.returns
returns c =
    let before : FitsSigned w64 c.args.d.now.before = search rules in
    let after : FitsSigned w64 c.args.d.now.after = search rules in
    let change : FitsSigned w64 c.args.d.now.change = search rules in
    joined c.put_value_cell-3.result c.args.out.now c.put_value_cell.new.out c.put_value_cell-2.new.out c.put_value_cell-3.new.out
    (cell (signed_decimal c.args.d.now.before)) (cell (signed_decimal c.args.d.now.after)) (cell (signed_decimal c.args.d.now.change))
    (rw (to_z-of_z w64 c.args.d.now.before before) at c.in_ok-put_value_cell.ensures)
    (rw (to_z-of_z w64 c.args.d.now.after after) at c.in_ok-put_value_cell-2.ensures)
    (rw (to_z-of_z w64 c.args.d.now.change change) at c.put_value_cell-3.ensures)
