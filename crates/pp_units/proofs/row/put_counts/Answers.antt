use Rattle.std.proofs.Common.{codes}
use Rattle.pp_units.specs.Rows.{numbered}
use Rattle.pp_base.proofs.TextLemmas.{joined_on}
use Rattle.pp_units.proofs.row.put_counts.Goals as goal

pub returns : goal.returns
returns c =
    joined_on c.extend.result c.args.out.now c.put_numbered.new.out c.put_numbered-2.new.out c.extend.new.self
    (numbered (codes "Showing top ") c.args.shown) (numbered (codes " nodes out of ") c.args.candidates) (codes "\n")
    c.in_ok-put_numbered.ensures c.in_ok-put_numbered-2.ensures c.extend.ensures.ok
