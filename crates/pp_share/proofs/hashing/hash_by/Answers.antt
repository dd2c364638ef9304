use Rattle.std.proofs.Common.{fold, map, sym, ◌∙◌}
use Rattle.std.proofs.lemmas.List.Folds.{fold-map}
use Rattle.pp_share.specs.Ids.{new_id}
use Rattle.pp_share.specs.Renumbered.{new_ids, renumbered_label}
use Rattle.pp_share.specs.SampleStacks.{with_word, with_label}
use Rattle.pp_share.proofs.hashing.hash_by.Goals as goal

-- the ids and the labels are taken as they will be
pub returns : goal.returns
returns c =
    let by = c.args.by.now in
    let s = c.args.sample.now in
    c.hash_labels.ensures
    ∙ (λ j. fold (λ hash label. with_label hash (renumbered_label (new_ids by) label))
    ((c.hash_locations-located.ensures ∙ (λ i. fold (λ hash id. with_word hash (new_id by.location id)) 0 (c.as_slice.ensures i)) ∙ sym (fold-map with_word (new_id by.location) 0 s.location_id)) j)
    (c.as_slice-2.ensures j))
    ∙ sym (fold-map with_label (renumbered_label (new_ids by)) (fold with_word 0 (map (new_id by.location) s.location_id)) s.label)
