use Rattle.std.proofs.Common.{Bool, map, refl, ap, ◌∙◌}
use Rattle.pp_share.specs.declared.places.LocationKey.{LocationKey}
use Rattle.pp_share.specs.PlaceKeys.{near, same_place, place_of_key}
use Rattle.pp_share.proofs.Agreement.{distinct_as, ids_as}
use Rattle.pp_share.proofs.places.share_locations.Goals as goal

-- keys are one where the locations that they stand for are
abbrev same_key : LocationKey → LocationKey → Bool
same_key a b = same_place (place_of_key a) (place_of_key b)

pub returns-clause-table : goal.returns-clause-table
returns-clause-table c =
    c.in_ok-locations.ensures
    ∙ ap (λ keys. map (near c.args.mappings.now) (map place_of_key keys)) c.in_ok-keys.ensures.table
    ∙ ap (map (near c.args.mappings.now)) (distinct_as same_key same_place place_of_key (λ a b. refl) c.args.keys.items _ refl)

pub returns-clause-ids : goal.returns-clause-ids
returns-clause-ids c =
    c.in_ok-keys.ensures.ids ∙ ids_as same_key same_place place_of_key (λ a b. refl) c.args.keys.items _ refl
