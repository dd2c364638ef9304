use Rattle.std.proofs.Common.{◌≡◌, map, take}
use Rattle.pp_source.specs.Files.{whole_source}
use Rattle.pp_source.proofs.split.split_sources.Given as goal

-- the sources so far are cut
abbrev pub invariant-loop-source : goal.invariant-loop-source
invariant-loop-source l = map whole_source l.split.items ≡ take l.source-index l.sources
