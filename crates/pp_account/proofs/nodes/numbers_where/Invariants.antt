use Rattle.std.proofs.Common.{◌≡◌, take}
use Rattle.pp_account.specs.Nodes.{numbers_where}
use Rattle.pp_account.proofs.nodes.numbers_where.Given as goal

-- those of the first numbers
abbrev pub invariant-loop-number : goal.invariant-loop-number
invariant-loop-number l = l.numbers ≡ numbers_where l.sums l.total l.least.billionths l.wanted (take l.number-index l.order)
