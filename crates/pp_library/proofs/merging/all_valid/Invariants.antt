use Rattle.std.proofs.Common.{take}
use Rattle.std.specs.List.{AllByRecursion}
use Rattle.pp_model.specs.Words.{NoRuleFails}
use Rattle.pp_library.proofs.merging.all_valid.Given as goal

-- the profiles so far keep the rules
abbrev pub invariant-loop-p : goal.invariant-loop-p
invariant-loop-p l = AllByRecursion NoRuleFails (take l.p-index l.profiles)
