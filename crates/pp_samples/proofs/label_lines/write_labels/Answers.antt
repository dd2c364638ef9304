use Rattle.std.proofs.Common.{◌≡◌, ◌++◌, ℕ, List, subst, ◌∙◌, IfOk}
use Rattle.std.specs.List.{flat_map}
use Rattle.pp_samples.specs.Traces.{trace_label_line}
use Rattle.pp_samples.proofs.label_lines.write_labels.Goals as goal

-- the lines of the labels that are shown
pub returns : goal.returns
returns c f finds =
    let labels = c.as_slice.ensures ∙ c.in_ok-show_tags_into.ensures f finds in
    subst (λ (text : List ℕ). IfOk c.put_labels.result (λ _. c.put_labels.new.text ≡ text))
    (λ i. c.clear.ensures i ++ flat_map (trace_label_line (c.get.ensures.same i)) (labels i))
    c.put_labels.ensures
