use Rattle.std.proofs.Common.{◌≡◌, take}
use Rattle.pp_edit.proofs.copying.same_samples.Given as goal

abbrev pub invariant-loop-sample : goal.invariant-loop-sample
invariant-loop-sample l = l.list ≡ take l.sample-index l.samples
