use Rattle.std.proofs.Common.{◌≡◌, ◌≤◌, length}
use Rattle.pp_shell.specs.Commands.{without_digits}
use Rattle.pp_shell.proofs.name.report_name.Given as goal

abbrev pub invariant-loop-last : goal.invariant-loop-last
invariant-loop-last l = (without_digits l.name ≡ without_digits l.word) × (length l.name ≤ length l.word)

abbrev pub decreases-loop-last : goal.decreases-loop-last
decreases-loop-last l = length l.name
