use Rattle.std.proofs.Common.{length}
use Rattle.pp_base.proofs.TextLemmas.{joined_two}
use Rattle.pp_units.specs.Rows.{dropped_line, limited_line, dropped_nodes}
use Rattle.pp_top.proofs.compare.put_counts.Goals as goal

pub returns : goal.returns
returns c =
    joined_two c.put_limited.result c.args.out.now c.put_dropped_nodes.new.out c.put_limited.new.out
    (dropped_line dropped_nodes c.args.t.now.dropped_nodes)
    (limited_line (length c.args.t.now.order) c.args.t.now.candidates)
    c.in_ok-put_dropped_nodes.ensures (rw c.len.ensures at c.put_limited.ensures)
