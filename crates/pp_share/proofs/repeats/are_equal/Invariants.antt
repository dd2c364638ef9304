use Rattle.std.proofs.Common.{ℕ, ◌<◌, get_or}
use Rattle.pp_share.specs.declared.repeats.Repeat.{Repeat}
use Rattle.pp_share.specs.Renumbered.{new_ids}
use Rattle.pp_share.specs.Repeats.{AreEqual}
use Rattle.pp_share.proofs.repeats.are_equal.Given as goal

-- the samples of each pair so far are equal
abbrev pub invariant-loop-repeat : goal.invariant-loop-repeat
invariant-loop-repeat l = (k : ℕ) (d : Repeat) → k < l.repeat-index → AreEqual (new_ids l.by) l.samples (get_or l.repeats k d)
