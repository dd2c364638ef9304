use Rattle.std.proofs.Common.{◌-◌, ◌≤◌, length, map, drop}
use Rattle.std.specs.Prelude.{IsTrue}
use Rattle.pp_shell.specs.Taking.{IsNarrowing, are_fair_rows}
use Rattle.pp_shell.proofs.narrowing.narrowing_of.Given as goal

abbrev pub invariant-loop-taken : goal.invariant-loop-taken
invariant-loop-taken l =
    (l.taken ≤ length l.words)
    × IsTrue (are_fair_rows l.narrowing.rows)
    × IsNarrowing l.narrowing (map (λ w. w.now) l.words) (map (λ w. w.now) (drop l.taken l.words))

abbrev pub decreases-loop-taken : goal.decreases-loop-taken
decreases-loop-taken l = length l.words - l.taken
