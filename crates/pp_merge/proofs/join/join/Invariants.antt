use Rattle.std.proofs.Common.{◌≡◌}
use Rattle.std.specs.List.{AllByRecursion}
use Rattle.pp_model.specs.Words.{NoRuleFails}
use Rattle.pp_merge.specs.Joined.{joined}
use Rattle.pp_merge.proofs.join.join.Given as goal

abbrev pub invariant-loop-valid : goal.invariant-loop-valid
invariant-loop-valid l = record {
  same : l.joined ≡ joined l.fn.first l.yielded;
  start : NoRuleFails l.fn.first;
  valid : AllByRecursion NoRuleFails l.yielded;
}
