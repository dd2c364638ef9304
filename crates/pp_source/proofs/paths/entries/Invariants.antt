use Rattle.std.proofs.Common.{◌≡◌, ℕ, List, map, Bor}
use Rattle.std.specs.List.{filter}
use Rattle.pp_source.specs.Paths.{is_given}
use Rattle.pp_source.proofs.paths.entries.Given as goal

-- the entries so far that aren't empty
abbrev pub invariant-loop-entry : goal.invariant-loop-entry
invariant-loop-entry l = map (λ (e : Bor (List ℕ)). e.now) l.found.items ≡ filter is_given (map (λ (e : Bor (List ℕ)). e.now) l.yielded)
