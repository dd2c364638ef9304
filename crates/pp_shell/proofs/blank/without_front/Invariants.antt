use Rattle.std.proofs.Common.{◌≡◌, length}
use Rattle.pp_shell.specs.Blanks.{without_front}
use Rattle.pp_shell.proofs.blank.without_front.Given as goal

abbrev pub invariant-loop-first : goal.invariant-loop-first
invariant-loop-first l = without_front l.kept ≡ without_front l.text

abbrev pub decreases-loop-first : goal.decreases-loop-first
decreases-loop-first l = length l.kept
