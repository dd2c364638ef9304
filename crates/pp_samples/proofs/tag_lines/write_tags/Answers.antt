use Rattle.std.proofs.Common.{◌≡◌, ◌++◌, ◌<◌, ◌^◌, nat_abs, List, ℕ, map, ap, sym, subst, ◌∙◌}
use Rattle.std.specs.List.{flat_map}
use Rattle.std.specs.Result.{OnOk}
use Rattle.pp_base.proofs.Sums.{sum_by-map}
use Rattle.pp_units.specs.Shown.{shown}
use Rattle.pp_count.specs.Counts.{samples_at}
use Rattle.pp_count.specs.Sums.{Seen}
use Rattle.pp_count.specs.Seeing.{filtered_from, absolute_all}
use Rattle.pp_count.proofs.Kept.{kept_samples, kept_fits, values_fit}
use Rattle.pp_samples.specs.Surveyed.{survey_profile, survey_tagged}
use Rattle.pp_samples.specs.TagLines.{TagTexts, tagged_samples, key_lines, all_keys}
use Rattle.pp_samples.specs.Tables.{AreKeys, AreSmall, events_from}
use Rattle.pp_samples.proofs.SmallLemmas.{small_samples}
use Rattle.pp_samples.proofs.tag_lines.write_tags.Goals as goal

-- the samples that the filters leave are counted, and their keys listed
pub returns-clause-ok : goal.returns-clause-ok
returns-clause-ok c f holds =
    let survey = c.args.survey.now in
    let p = survey_profile survey in
    let config = survey.config.now in
    let unit = shown c.args.head.now.unit in
    let samples = tagged_samples p f config survey.column in
    let kept : c.as_slice.result.now ≡ filtered_from p f config.filtering 0 p.sample = c.as_slice.ensures ∙ survey.counts.kept f holds in
    let are : map (survey_tagged survey f) (samples_at p c.as_slice.result.now) ≡ samples =
    ap (map (survey_tagged survey f)) (kept_samples p f config.filtering c.as_slice.result.now kept) in
    let fits : absolute_all survey.column config.presentation.divide_by (samples_at p c.as_slice.result.now) < 2 ^ 63 =
    kept_fits p f config survey.column c.as_slice.result.now kept
    (values_fit p survey.column config.presentation.divide_by survey.can.countable survey.can.column) in
    let small : AreSmall (events_from 0 (map (survey_tagged survey f) (samples_at p c.as_slice.result.now))) =
    small_samples (map (survey_tagged survey f) (samples_at p c.as_slice.result.now))
    (subst (λ (n : ℕ). n < 2 ^ 63) (sym (sum_by-map (λ (s : Seen TagTexts). nat_abs s.value) (survey_tagged survey f) (samples_at p c.as_slice.result.now))) fits) in
    let counted : AreKeys (events_from 0 samples) c.in_ok-keys.keys =
    subst (λ (ss : List (Seen TagTexts)). AreKeys (events_from 0 ss) c.in_ok-keys.keys) are (c.in_ok-keys.ensures.keys f holds small) in
    let text = flat_map (key_lines unit samples) (all_keys samples) in
    subst (λ (t : List ℕ). OnOk c.append.result (c.append.new.self ≡ c.args.out.now ++ t))
    (c.in_ok-put_keys.ensures samples counted ∙ ap (λ (old : List ℕ). old ++ text) c.new-lines.ensures)
    c.append.ensures.ok
