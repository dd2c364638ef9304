use Rattle.std.proofs.Common.{◌++◌, List, map, sym, subst, ◌∙◌, rules, w64, FitsSigned}
use Rattle.std.proofs.lemmas.Int.{to_z-of_z}
use Rattle.std.specs.Result.{OnOk}
use Rattle.pp_tags.specs.TagFilters.{shown_labels}
use Rattle.pp_count.specs.Column.{selected}
use Rattle.pp_samples.specs.Surveyed.{survey_profile}
use Rattle.pp_samples.specs.Tables.{Event, AreKeys, AreSmall, label_event}
use Rattle.pp_samples.proofs.CountLemmas.{labels_are}
use Rattle.pp_samples.proofs.tag_counts.count_sample.Goals as goal

pub returns-clause-keys : goal.returns-clause-keys
returns-clause-keys c f finds events is small =
    let survey = c.args.survey.now in
    let p = survey_profile survey in
    let fits : FitsSigned w64 c.selected-value.result = search rules in
    let value = to_z-of_z w64 c.selected-value.result fits ∙ c.selected-value.ensures in
    let labels = c.as_slice.ensures ∙ c.in_ok-show_tags_into.ensures f finds.found in
    let are =
    (λ i. map (label_event (c.get.ensures.same i) (value i) c.args.turn) (labels i))
    ∙ labels_are p (selected survey.column survey.config.now.presentation.divide_by c.args.s.now) c.args.turn (shown_labels p f c.args.s.now.label) in
    subst (λ (es : List Event). OnOk c.count_labels.result (AreKeys (events ++ es) c.count_labels.new.counts.keys)) are
    (c.count_labels.ensures.keys events is (subst (λ (es : List Event). AreSmall (events ++ es)) (sym are) small))
