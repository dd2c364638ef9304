use Rattle.std.proofs.Common.{◌+◌, ◌*◌}
use Rattle.pp_steal.proofs.spread.+spreading.Given as goal

abbrev pub decreases-each_from : goal.decreases-each_from
decreases-each_from g l = 4 * l.threads

abbrev pub decreases-beside : goal.decreases-beside
decreases-beside g l = 4 * l.threads + 2

abbrev pub decreases-beside-here : goal.decreases-beside-here
decreases-beside-here g l = 4 * l.threads + 1
