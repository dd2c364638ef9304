use Rattle.std.proofs.Common.{w64, FitsSigned, codes, rules}
use Rattle.std.proofs.lemmas.Int.{to_z-of_z}
use Rattle.pp_base.proofs.TextLemmas.{joined_two}
use Rattle.pp_units.specs.Rows.{name_end}
use Rattle.pp_units.specs.Shown.{shown}
use Rattle.pp_top.specs.Compare.{difference_columns}
use Rattle.pp_top.specs.ComparedRows.{wrapped}
use Rattle.pp_top.proofs.compare.put_whole.Goals as goal

pub returns : goal.returns
returns c =
    let whole : FitsSigned w64 c.args.table.now.base.now.whole = search rules in
    joined_two c.put_end.result c.args.out.now c.put_columns.new.out c.put_end.new.out
    (difference_columns (shown c.args.table.now.head.now.unit) (wrapped c.args.table.now.base.now.whole c.args.change)) (name_end (codes "(all)"))
    (rw (c.difference_of-figures.ensures, to_z-of_z w64 c.args.table.now.base.now.whole whole, to_z-of_z w64 c.args.change c.ranges.change) at c.in_ok-put_columns.ensures)
    c.put_end.ensures
