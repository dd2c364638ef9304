use Rattle.std.proofs.Common.{◌≡◌, ℕ, fold, length, take}
use Rattle.pp_share.specs.Repeats.{with_repeat}
use Rattle.pp_share.specs.Sums.{CanSum}
use Rattle.pp_share.proofs.samples.add_repeats.Given as goal

-- the repeats so far are added
abbrev pub invariant-loop-repeat : goal.invariant-loop-repeat
invariant-loop-repeat l = record {
  so_far : l.samples ≡ fold with_repeat l.initial.samples (take l.repeat-index l.repeats);
  can : (columns : ℕ) × CanSum columns l.samples;
  long : length l.samples ≡ length l.initial.samples;
}
