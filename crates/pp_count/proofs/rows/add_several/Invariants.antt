use Rattle.std.proofs.Common.{◌≡◌, ◌++◌, take}
use Rattle.pp_count.proofs.rows.add_several.Given as goal

-- the numbers so far have been added
abbrev pub invariant-loop-number : goal.invariant-loop-number
invariant-loop-number l = l.numbers.items ≡ l.initial.numbers.items ++ take l.number-index l.row
