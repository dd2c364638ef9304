use Rattle.std.proofs.Common.{◌∙◌}
use Rattle.pp_restack.proofs.PlacesLemmas.{places_more, added_entry}
use Rattle.pp_restack.proofs.places.place_lines.Goals as goal

-- the location that is added has the next id
pub returns-clause-places : goal.returns-clause-places
returns-clause-places c q refers places =
    places_more q c.args.places.now.locations c.keep.new.places.locations c.args.location.now c.args.places.now.lines c.in_ok-id.id
    places refers c.in_ok-id.ensures.id (c.keep.ensures ∙ c.in_ok-id.ensures.locations)

pub returns-clause-entry : goal.returns-clause-entry
returns-clause-entry c =
    added_entry c.args.places.now.locations c.keep.new.places.locations c.args.location.now c.args.places.now.lines c.in_ok-id.id
    c.in_ok-id.ensures.id (c.keep.ensures ∙ c.in_ok-id.ensures.locations)
