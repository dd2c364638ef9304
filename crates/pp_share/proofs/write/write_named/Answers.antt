use Rattle.std.proofs.Common.{◌≡◌, ◌<◌, [], ◌++◌, length, sym, ap, ◌∙◌, subst}
use Rattle.std.specs.List.{flat_map}
use Rattle.std.proofs.lemmas.List.Sums.{fold-append}
use Rattle.pp_share.specs.Walk.{met_with, met_after, first_text_ids, sample_text_ids, table_text_ids}
use Rattle.pp_share.specs.Walked.{locations_met, with_locations, with_placed_samples, mappings_met, with_mappings, functions_met, with_functions, with_tables, with_texts, walked_texts_of, by_places}
use Rattle.pp_share.specs.Renumbered.{renumbered_tables}
use Rattle.pp_share.proofs.write.write_named.Goals as goal

-- The texts of the tables are met behind those of the samples, whose places stay.
pub returns : goal.returns
returns c = λ p named.
    let first = c.args.texts in
    let all = c.keep_entries.new.texts in
    let samples = flat_map sample_text_ids p.sample in
    let tables = table_text_ids (with_tables p) in
    let located = named.kept tables in
    let mapped = ap with_mappings located in
    let entered = ap with_functions mapped in
    let kept = c.in_ok-mappings.ensures in
    let behind : all ≡ met_after first tables = kept.met ∙ ap (λ q. met_after first (table_text_ids q)) entered in
    let texts : all ≡ walked_texts_of p =
    behind ∙ ap (λ t. met_after t tables) named.said
    ∙ sym (fold-append met_with [] (first_text_ids p) (samples ++ tables) ∙ fold-append met_with (met_after [] (first_text_ids p)) samples tables) in
    let mappings = kept.mappings ∙ ap mappings_met located in
    let functions = kept.functions ∙ ap functions_met mapped in
    record {
      same =
          c.renumber_tables.ensures
          ∙ (λ i. renumbered_tables (by_places all (mappings i) (functions i) (named.met i))
          ((kept.kept ∙ ap (with_texts all) entered) i))
          ∙ (λ i. renumbered_tables (by_places all (mappings_met (with_locations p)) (functions_met (with_mappings (with_locations p))) (locations_met p))
          (with_texts all (with_functions (with_mappings (with_placed_samples (sym behind i) p)))))
          ∙ (λ i. renumbered_tables (by_places (texts i) (mappings_met (with_locations p)) (functions_met (with_mappings (with_locations p))) (locations_met p))
          (with_texts (texts i) (with_functions (with_mappings (with_placed_samples (texts i) p)))));
      few = subst (λ met. length met < 4611686018427387904) texts kept.few;
    }
