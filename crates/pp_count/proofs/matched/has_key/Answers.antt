use Rattle.std.proofs.Common.{◌≡◌, Bool, true, false, ◌&&◌, ap, subst, ◌∙◌, refl}
use Rattle.std.specs.List.{list_any}
use Rattle.std.proofs.lemmas.Bool.{false≢true}
use Rattle.std.proofs.lemmas.List.Elements.{All-weaker}
use Rattle.pp_model.specs.Words.{NoRuleFails, is_text, label_has_texts}
use Rattle.pp_tags.specs.Labels.{key_text}
use Rattle.pp_tags.specs.Verdicts.{verdict_on}
use Rattle.pp_tags.proofs.AlikeLemmas.{list_any_alike}
use Rattle.pp_tags.proofs.LabelLemmas.{labels_have_texts, verdict_is}
use Rattle.pp_count.proofs.matched.has_key.Goals as goal

first_part : (a b : Bool) → (a && b) ≡ true → a ≡ true
first_part true b both = refl
first_part false b both = absurd (false≢true both)

-- the verdict on the key of each label is what the pattern finds of it
pub returns : goal.returns
returns c = λ find are.
    let p = c.args.l.now.profile in
    let texts = labels_have_texts p c.args.s.now (subst NoRuleFails c.get-valid.ensures.same c.get-valid.ensures.valid) c.requires in
    c.finds_key.ensures ∙ ap (list_any (λ label. verdict_on c.args.found.now label.key)) c.as_slice.ensures
    ∙ list_any_alike (λ label. verdict_on c.args.found.now label.key) (λ label. find (key_text p label)) c.args.s.now.label
    (All-weaker (λ label. label_has_texts p label ≡ true) (λ label. verdict_on c.args.found.now label.key ≡ find (key_text p label))
    (λ label has. ap (λ found. verdict_on found label.key) are ∙ verdict_is p find label.key (first_part (is_text p label.key) (is_text p label.text) (first_part (is_text p label.key && is_text p label.text) (is_text p label.num_unit) has))) c.args.s.now.label texts)
