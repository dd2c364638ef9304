use Rattle.pp_top.specs.Changes.{change_line}
use Rattle.pp_top.specs.ComparedRows.{compared_at}
use Rattle.pp_top.proofs.Putting.{Putting}
use Rattle.pp_top.proofs.changes.put_lines.Given as goal

-- the rows so far have their lines
abbrev pub invariant-loop-number : goal.invariant-loop-number
invariant-loop-number l =
    Putting (λ n. change_line (compared_at l.table.l.now.profile l.table.sort l.table.sums.now l.table.base.now n))
    l.order l.initial.out l.number-index l.out
