use Rattle.std.proofs.lemmas.Slice.Eq.{slice_eq-Decides}
use Rattle.pp_restack.proofs.PlacesLemmas.{line_decides}
use Rattle.pp_restack.proofs.places.are_same.Goals as goal

-- equal lines have equal numbers
pub returns : goal.returns
returns c = (slice_eq-Decides line_decides c.args.lines.now c.args.others.now c.eq.result c.eq.ensures).0
