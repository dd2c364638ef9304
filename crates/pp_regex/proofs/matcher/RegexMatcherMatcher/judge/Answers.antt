use Rattle.std.proofs.Common.{rules, ◌≡◌, ◌∷◌, ◌++◌, [], true, Some, ap, ap₂, ◌∙◌}
use Rattle.pp_regex.proofs.Alike.{verdicts_by_text, pattern_of_built}
use Rattle.pp_regex.specs.Built.{IsBuiltFrom}
use Rattle.pp_regex.proofs.matcher.RegexMatcherMatcher.judge.Goals as goal

-- the verdicts are those of the text
pub returns-in-Ok-push-clause-judges : goal.returns-in-Ok-push-clause-judges
returns-in-Ok-push-clause-judges c =
    let built : IsBuiltFrom c.args.pattern.now c.in-Ok-build.regex = rw c.as_slice-2.ensures at c.in-Ok-build.ensures.built in
    let all = verdicts_by_text c.in-Ok-build.regex c.args.pattern.now built
    c.in-Ok-verdicts_of.verdicts.items c.args.subjects.now (rw c.as_slice-in-Ok-build.ensures at c.in-Ok-verdicts_of.ensures) in
    let kept : c.push.new.self ≡ c.args.self.now.answers ++ (c.args.pattern.now, true) ∷ [] =
    c.in-Ok-push.ensures.ok
    ∙ ap₂ (λ answers name. answers ++ (name, true) ∷ []) (ap (λ held. held.answers) c.self.view_is)
    (c.in-Ok.ensures ∙ c.as_slice.ensures) in
    (c.from_vec.ensures ∙ all, ap Some kept)

-- a text that was built is a pattern
pub returns-in-Ok-push-clause-cause : goal.returns-in-Ok-push-clause-cause
returns-in-Ok-push-clause-cause c =
    (pattern_of_built c.in-Ok-build.regex c.args.pattern.now (rw c.as_slice-2.ensures at c.in-Ok-build.ensures.built), search rules)
