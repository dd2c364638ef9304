use Rattle.std.proofs.Common.{◌≡◌, ◌++◌, map}
use Rattle.std.specs.List.{range_with_len}
use Rattle.pp_load.specs.Generator.{generator_texts, made_name}
use Rattle.pp_load.proofs.generator.made_texts.Given as goal

-- those so far
abbrev pub invariant-loop-number : goal.invariant-loop-number
invariant-loop-number l = l.texts ≡ generator_texts ++ map made_name (range_with_len 0 l.number)
