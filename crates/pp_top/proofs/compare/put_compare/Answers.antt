use Rattle.std.proofs.Common.{◌++◌, length, w64}
use Rattle.std.specs.List.{flat_map}
use Rattle.std.proofs.lemmas.Int.{to_z-of_z}
use Rattle.pp_units.specs.Head.{facts, facts_text}
use Rattle.pp_units.specs.Rows.{dropped_line, limited_line, dropped_nodes}
use Rattle.pp_units.specs.Shown.{shown}
use Rattle.pp_top.specs.Compare.{compare_heading, difference_line}
use Rattle.pp_top.specs.ComparedRows.{compared_at, whole_at}
use Rattle.pp_top.proofs.Putting.{joined_five}
use Rattle.pp_top.proofs.compare.put_compare.Goals as goal

pub returns : goal.returns
returns c =
    joined_five c.put_rows.result c.args.out.now c.write_head.new.out c.put_counts.new.out c.put_heading.new.out c.put_whole.new.out c.put_rows.new.out
    (facts_text (facts c.args.table.now.head.now))
    (dropped_line dropped_nodes c.args.t.now.dropped_nodes ++ limited_line (length c.args.t.now.order) c.args.t.now.candidates)
    (compare_heading c.args.table.now.sort)
    (difference_line (shown c.args.table.now.head.now.unit) (whole_at c.args.table.now.base.now c.args.change))
    (flat_map (λ n. difference_line (shown c.args.table.now.head.now.unit) (compared_at c.args.table.now.l.now.profile c.args.table.now.sort c.args.table.now.sums.now c.args.table.now.base.now n)) c.args.t.now.order)
    c.in_ok-write_head.ensures.ok c.in_ok-put_counts.ensures c.in_ok-put_heading.ensures
    (rw (to_z-of_z w64 c.args.change c.ranges.change) at c.in_ok-put_whole.ensures)
    (rw c.as_slice.ensures at c.put_rows.ensures)
