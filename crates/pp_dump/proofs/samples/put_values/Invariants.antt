use Rattle.std.proofs.Common.{◌≡◌, ◌++◌, take, codes}
use Rattle.std.specs.List.{flat_map}
use Rattle.pp_dump.specs.Raw.{value_word}
use Rattle.pp_dump.proofs.samples.put_values.Given as goal

abbrev pub invariant-loop-value : goal.invariant-loop-value
invariant-loop-value l = l.lines ≡ l.initial.lines ++ flat_map (λ value. codes " " ++ value_word value) (take l.value-index l.others)
