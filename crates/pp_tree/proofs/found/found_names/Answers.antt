use Rattle.std.proofs.Common.{sym, ap, ◌∙◌}
use Rattle.pp_tree.proofs.Owned.{no_own}
use Rattle.pp_tree.proofs.Named.{none_marked, some_marked}
use Rattle.std.specs.List.{list_any}
use Rattle.pp_tree.proofs.found.found_names.Goals as goal

pub returns-in_default-clause-none : goal.returns-in_default-clause-none
returns-in_default-clause-none c = λ f holds _.
    no_own c.args.survey.now.l.now.profile f c.args.survey.now.config.now c.args.survey.now.column c.args.survey.now.v.now.own holds.found.own c.in_default.is

pub returns-then-not-has_mark-clause-none : goal.returns-then-not-has_mark-clause-none
returns-then-not-has_mark-clause-none c = λ f holds _.
    none_marked c.args.survey.now.l.now.profile f c.args.survey.now.config.now c.args.survey.now.column c.args.survey.now.counted.now.sums
    (c.args.survey.now.counts.sums_are f holds) c.in_ok-found.found (c.in_ok-found.ensures f holds)
    (ap (list_any (λ mark. mark)) (sym c.as_slice.ensures) ∙ sym c.has_mark.ensures ∙ c.if-not-has_mark.true)

pub returns-clause-some : goal.returns-clause-some
returns-clause-some c = λ f holds.
    some_marked c.args.survey.now.l.now.profile f c.args.survey.now.config.now c.args.survey.now.column c.args.survey.now.counted.now.sums
    (c.args.survey.now.counts.sums_are f holds) c.args.survey.now.counted.now.sums.names
    (ap (list_any (λ mark. mark)) (sym (c.as_slice.ensures ∙ c.in_ok-found.ensures f holds)) ∙ sym c.has_mark.ensures ∙ c.if-not-has_mark.false)
