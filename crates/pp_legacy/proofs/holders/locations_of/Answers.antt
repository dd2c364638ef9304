use Rattle.std.proofs.Common.{◌≡◌, ◌++◌, ◌∷◌, [], get_or, ap, sym, ◌∙◌}
use Rattle.std.proofs.lemmas.List.{get_or-map}
use Rattle.pp_legacy.specs.Tables.{holder_of, numbered_location, location_of}
use Rattle.pp_legacy.proofs.Numbered.{numbered_more}
use Rattle.pp_legacy.proofs.holders.locations_of.Goals as goal

pub loop-place-preserved : goal.loop-place-preserved
loop-place-preserved c =
    let ms = c.args.mappings.now in
    let xs = c.args.addresses.now in
    let i = c.loop-place.place in
    let held : c.index.result.now ≡ holder_of ms (get_or xs i 0) =
    c.index.ensures ∙ ap (λ l. get_or l i c.index.result.now) c.in_ok-holders.ensures
    ∙ get_or-map (holder_of ms) xs i 0 c.index.result.now c.loop-place-test.true in
    let item : c.location_at.result ≡ location_of ms i (get_or xs i 0) = c.location_at.ensures ∙ ap (λ h. numbered_location i h (get_or xs i 0)) held in
    c.in_ok-push.ensures.ok ∙ (λ j. c.loop-place.invariant j ++ item j ∷ [])
    ∙ sym (numbered_more (location_of ms) xs i 0 c.loop-place-test.true)
