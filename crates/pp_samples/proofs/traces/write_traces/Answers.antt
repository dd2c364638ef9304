use Rattle.std.proofs.Common.{◌≡◌, ◌++◌, List, ℕ, ap, subst, ◌∙◌}
use Rattle.std.specs.List.{flat_map}
use Rattle.std.specs.Result.{OnOk}
use Rattle.pp_units.specs.Shown.{shown}
use Rattle.pp_units.specs.Head.{head_text}
use Rattle.pp_samples.specs.Traces.{trace_separator, trace_of}
use Rattle.pp_samples.proofs.traces.write_traces.Goals as goal

-- the head, the samples that the filters leave, and the last separator
pub returns-clause-ok : goal.returns-clause-ok
unfolding trace_separator
returns-clause-ok g c = λ f holds.
    let survey = c.args.survey.now in
    let p = survey.l.now.profile in
    let head = head_text c.args.head.now in
    let traces = flat_map (trace_of p f survey.config.now survey.column (shown c.args.head.now.unit)) p.sample in
    let begun : c.write_head.new.out ≡ head = c.in_ok-write_head.ensures.ok ∙ ap (λ (old : List ℕ). old ++ head) c.new-lines.ensures in
    let traced : c.put_samples.new.lines ≡ head ++ traces = c.in_ok-put_samples.ensures f holds ∙ ap (λ (old : List ℕ). old ++ traces) begun in
    subst (λ (text : List ℕ). OnOk c.append.result (c.append.new.self ≡ c.args.out.now ++ text))
    (c.in_ok-extend.ensures.ok ∙ ap (λ (text : List ℕ). text ++ trace_separator) traced)
    c.append.ensures.ok
