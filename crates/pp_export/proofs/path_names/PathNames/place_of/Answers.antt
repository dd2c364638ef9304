use Rattle.pp_export.specs.PathNames.{numbered_name}
use Rattle.pp_export.proofs.PathNameLemmas.{gives_old}
use Rattle.pp_export.proofs.path_names.PathNames.place_of.Goals as goal

-- it was made before
pub returns-then-place-gt0 : goal.returns-then-place-gt0
returns-then-place-gt0 c =
    gives_old (numbered_name c.args.l.now.profile c.args.names.now) c.args.number c.args.self.now c.place-place.result c.place-place.ensures c.if-place-gt0.true c.requires.names
