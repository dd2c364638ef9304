use Rattle.std.proofs.Common.{◌≡◌, ℕ, List, map, Bor}
use Rattle.std.specs.List.{filter_map}
use Rattle.pp_legacy.specs.Regions.{code_in}
use Rattle.pp_legacy.specs.Seen.{regions_of}
use Rattle.pp_legacy.proofs.regions.regions_in.Given as goal

abbrev pub invariant-loop-line : goal.invariant-loop-line
invariant-loop-line l = regions_of l.regions.items ≡ filter_map code_in (map (λ (line : Bor (List ℕ)). line.now) l.yielded)
