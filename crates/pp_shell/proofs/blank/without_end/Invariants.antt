use Rattle.std.proofs.Common.{◌≡◌, length}
use Rattle.pp_options.specs.Ends.{without_end}
use Rattle.pp_shell.specs.Blanks.{is_blank}
use Rattle.pp_shell.proofs.blank.without_end.Given as goal

abbrev pub invariant-loop-last : goal.invariant-loop-last
invariant-loop-last l = without_end is_blank l.kept ≡ without_end is_blank l.text

abbrev pub decreases-loop-last : goal.decreases-loop-last
decreases-loop-last l = length l.kept
