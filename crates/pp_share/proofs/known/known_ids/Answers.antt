use Rattle.pp_share.proofs.KnownIds.{numbered_same}
use Rattle.pp_share.proofs.known.known_ids.Goals as goal

pub returns-then-are_in_place : goal.returns-then-are_in_place
returns-then-are_in_place c = numbered_same c.args.ids.now c.if-are_in_place.ensures
