use Rattle.std.proofs.Common.{◌≡◌}
use Rattle.pp_count.specs.EdgeSums.{kept_numbers}
use Rattle.pp_count.proofs.recounting.kept_names.Given as goal

-- the names so far that are kept
abbrev pub invariant-loop-name : goal.invariant-loop-name
invariant-loop-name l = l.kept ≡ kept_numbers l.keep l.name
