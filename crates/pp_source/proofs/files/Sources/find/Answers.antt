use Rattle.std.proofs.Common.{map, refl}
use Rattle.pp_source.specs.Files.{whole_source}
use Rattle.pp_source.proofs.ReadLemmas.{finds, misses}
use Rattle.pp_source.proofs.files.Sources.find.Goals as goal

-- the file is none of these
pub returns-in_err-place : goal.returns-in_err-place
returns-in_err-place c =
    misses c.args.file.now _ (λ x. refl) c.args.self.now.files.keys (map whole_source c.args.self.now.sources.items) c.from_residual.result c.from_residual.ensures c.in_err-place.ensures.index

pub returns : goal.returns
returns c =
    finds c.args.file.now _ (λ x. refl) c.args.self.now.files.keys c.as_slice.result.now c.args.self.now.sources.items c.in_ok-place.place c.get.result c.as_slice.ensures.value
    c.in_ok-place.ensures.index c.get.ensures.lookup
