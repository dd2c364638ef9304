use Rattle.std.proofs.Common.{[], drop, map}
use Rattle.pp_desk.specs.Went.{IsOnWay}
use Rattle.pp_source.specs.Listing.{read_sources}
use Rattle.pp_source.proofs.files.read_sources.Given as goal

-- the files that are left are all that is still to do
abbrev pub invariant-loop-file : goal.invariant-loop-file
invariant-loop-file g l =
    IsOnWay (g.D.Desk.world l.fn.desk) (g.D.Desk.world l.desk) (read_sources l.environment [] (map (λ f. f.now) l.files))
    (read_sources l.environment l.sources (map (λ f. f.now) (drop l.file-index l.files)))
