use Rattle.std.proofs.Common.{◌≡◌, ◌++◌, take, codes}
use Rattle.std.specs.List.{flat_map}
use Rattle.pp_dump.specs.Raw.{type_word}
use Rattle.pp_dump.proofs.samples.put_type_words.Given as goal

abbrev pub invariant-loop-t : goal.invariant-loop-t
invariant-loop-t l = l.lines ≡ l.initial.lines ++ flat_map (λ t. codes " " ++ type_word l.p t) (take l.t-index l.others)
