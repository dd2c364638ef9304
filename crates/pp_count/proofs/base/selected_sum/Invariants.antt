use Rattle.std.proofs.Common.{◌≡◌, take}
use Rattle.pp_count.specs.Base.{selected_all}
use Rattle.pp_count.specs.Counts.{samples_at}
use Rattle.pp_count.proofs.base.selected_sum.Given as goal

-- the sum over the first numbers
abbrev pub invariant-loop-number : goal.invariant-loop-number
invariant-loop-number l = l.sum ≡ selected_all l.column l.presentation.divide_by (samples_at l.l.profile (take l.number-index l.numbers))
