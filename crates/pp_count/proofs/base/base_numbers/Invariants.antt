use Rattle.std.proofs.Common.{◌≡◌, take}
use Rattle.std.specs.List.{filter}
use Rattle.pp_count.specs.Base.{is_base_number}
use Rattle.pp_count.proofs.base.base_numbers.Given as goal

-- those of the first numbers
abbrev pub invariant-loop-number : goal.invariant-loop-number
invariant-loop-number l = l.chosen ≡ filter (is_base_number l.p) (take l.number-index l.numbers)
