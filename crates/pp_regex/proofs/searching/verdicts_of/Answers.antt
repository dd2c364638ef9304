use Rattle.std.proofs.Common.{◌≡◌, ◌∷◌, ◌++◌, [], is_some, map, ap, ap₂, sym, ◌∙◌}
use Rattle.std.proofs.lemmas.List.{map_more, take_all}
use Rattle.regex.specs.Patterns.{find}
use Rattle.pp_regex.proofs.searching.verdicts_of.Goals as goal

-- one more subject is judged
pub loop-subject-preserved : goal.loop-subject-preserved
loop-subject-preserved c = (
  c.has_match.ensures.same ∙ c.loop-subject.invariant.0,
  λ re same.
      let before = c.loop-subject.invariant.1 re same in
      let now : c.has_match.result ≡ is_some (find re c.as_slice.result.now 0) =
      c.has_match.ensures.found re (rw c.loop-subject.invariant.0 same) in
      c.in_ok-push.ensures.items
      ∙ ap₂ (λ verdicts verdict. verdicts ++ verdict ∷ []) before
      (now ∙ ap (λ subject. is_some (find re subject 0)) (c.as_slice.ensures ∙ c.subject-item.is))
      ∙ sym (map_more _ c.args.subjects.now c.loop-subject.subject-index c.subject-item.result c.loop-subject-test.true),
)

-- all are judged
pub returns : goal.returns
returns c = λ re same.
    c.loop-subject.invariant.1 re same ∙ ap (map _) (take_all c.loop-subject.subject-index c.args.subjects.now c.loop-subject-test.false)
