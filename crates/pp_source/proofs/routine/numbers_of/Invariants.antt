use Rattle.std.proofs.Common.{◌≡◌, ◌<◌, ◌^◌, All, take}
use Rattle.pp_source.specs.Ledgers.{lines_texts}
use Rattle.pp_source.specs.SourceText.{numbers_of}
use Rattle.pp_source.proofs.routine.numbers_of.Given as goal

-- the numbers above 0 so far
abbrev pub invariant-loop-line : goal.invariant-loop-line
invariant-loop-line l = (l.numbers.items ≡ numbers_of (lines_texts (take l.line-index l.lines))) × All (λ n. n < 2 ^ 63) l.numbers.items
