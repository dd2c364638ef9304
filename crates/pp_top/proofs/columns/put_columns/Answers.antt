use Rattle.std.proofs.Common.{w64, FitsSigned, rules}
use Rattle.std.proofs.lemmas.Int.{to_z-of_z}
use Rattle.pp_base.proofs.TextLemmas.{joined_four}
use Rattle.pp_units.specs.Numbers.{right_text}
use Rattle.pp_units.specs.Shown.{shown}
use Rattle.pp_top.specs.Compare.{change_text, spaced_value}
use Rattle.pp_top.proofs.columns.put_columns.Goals as goal

pub returns : goal.returns
returns c =
    let before : FitsSigned w64 c.args.d.now.before = search rules in
    let after : FitsSigned w64 c.args.d.now.after = search rules in
    let change : FitsSigned w64 c.args.d.now.change = search rules in
    joined_four c.put_change.result c.args.out.now c.put_value.new.out c.put_value-2.new.out c.put_value-3.new.out c.put_change.new.out
    (spaced_value (shown c.args.head.now.unit) c.args.d.now.before) (spaced_value (shown c.args.head.now.unit) c.args.d.now.after)
    (spaced_value (shown c.args.head.now.unit) c.args.d.now.change) (right_text 8 (change_text c.args.d.now))
    (rw (to_z-of_z w64 c.args.d.now.before before) at c.in_ok-put_value.ensures)
    (rw (to_z-of_z w64 c.args.d.now.after after) at c.in_ok-put_value-2.ensures)
    (rw (to_z-of_z w64 c.args.d.now.change change) at c.in_ok-put_value-3.ensures)
    c.put_change.ensures
