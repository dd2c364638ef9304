use Rattle.std.proofs.Common.{◌≡◌, length}
use Rattle.pp_source.specs.Paths.{from_name}
use Rattle.pp_source.proofs.paths.from_name.Given as goal

-- only slashes were taken off
abbrev pub invariant-loop-rest : goal.invariant-loop-rest
invariant-loop-rest l = from_name l.rest ≡ from_name l.path

abbrev pub decreases-loop-rest : goal.decreases-loop-rest
decreases-loop-rest l = length l.rest
