use Rattle.std.proofs.Common.{w64, of_z, to_z, FitsSigned, sym, ap, ◌∙◌, rules}
use Rattle.std.proofs.lemmas.Int.{to_z-of_z}
use Rattle.pp_stack.specs.Runs.{kept_if}
use Rattle.pp_tree.proofs.Lookups.{looked_up, not_there}
use Rattle.pp_tree.specs.Found.{holds_key, has_own_frame, has_own_number}
use Rattle.pp_tree.proofs.Marking.{found_as, not_read, dropped, without_value, asked, is_member}
use Rattle.pp_tree.proofs.own.add_sample.Goals as goal

pub filter_into-requires-clause-sample : goal.filter_into-requires-clause-sample
filter_into-requires-clause-sample c =
    let there = rw (c.as_slice-samples.ensures, c.get.ensures.same) at c.in-Some.ensures.lookup in
    is_member c.args.asked.now.l.now.profile c.get.result.now c.args.number c.in-Some.sample.now c.get.ensures.same c.get.ensures.valid (looked_up c.args.asked.now.l.now.profile.sample c.args.number c.in-Some.sample.now there.0 there.1)

pub returns-in_default-clause-found : goal.returns-in_default-clause-found
returns-in_default-clause-found c = λ f find holds verdicts k.
    let none = rw (c.as_slice-samples.ensures, c.get.ensures.same) at c.in_default.ensures.lookup in
    not_read c.args.asked.now.l.now.profile f c.args.asked.now.config.now c.args.asked.now.column find c.args.number (not_there c.args.asked.now.l.now.profile.sample c.args.number none.0)
    (holds_key c.args.asked.now.l.now.profile c.args.keys.now.keys k) k

pub returns-then-selected-eq0-clause-found : goal.returns-then-selected-eq0-clause-found
returns-then-selected-eq0-clause-found c = λ f find holds verdicts k.
    let there = rw (c.as_slice-samples.ensures, c.get.ensures.same) at c.in-Some.ensures.lookup in
    let fits : FitsSigned w64 c.selected.result = search rules in
    without_value c.args.asked.now.l.now.profile f c.args.asked.now.config.now c.args.asked.now.column find c.args.number c.in-Some.sample.now (looked_up c.args.asked.now.l.now.profile.sample c.args.number c.in-Some.sample.now there.0 there.1)
    (sym c.selected.ensures ∙ sym (to_z-of_z w64 c.selected.result fits) ∙ ap (to_z w64) c.if-selected-eq0.true) (holds_key c.args.asked.now.l.now.profile c.args.keys.now.keys k) k

pub returns-then-not-branch-clause-found : goal.returns-then-not-branch-clause-found
returns-then-not-branch-clause-found c = λ f find holds verdicts k.
    let there = rw (c.as_slice-samples.ensures, c.get.ensures.same) at c.in-Some.ensures.lookup in
    dropped c.args.asked.now.l.now.profile f c.args.asked.now.config.now c.args.asked.now.column find c.args.number c.in-Some.sample.now (looked_up c.args.asked.now.l.now.profile.sample c.args.number c.in-Some.sample.now there.0 there.1)
    (sym (c.in_ok-filter_into.ensures.places f holds) ∙ ap (λ b. kept_if b c.filter_into.new.stack) c.if-not-branch.true) (holds_key c.args.asked.now.l.now.profile c.args.keys.now.keys k) k

pub returns-clause-found : goal.returns-clause-found
returns-clause-found c = λ f find holds verdicts.
    let there = rw (c.as_slice-samples.ensures, c.get.ensures.same) at c.in-Some.ensures.lookup in
    found_as c.add_stack.result (holds_key c.args.asked.now.l.now.profile c.add_stack.new.keys.keys) (holds_key c.args.asked.now.l.now.profile c.args.keys.now.keys)
    (λ k. has_own_frame c.args.asked.now.l.now.profile c.args.asked.now.config.now.grouping find k c.filter_into.new.stack) (λ k. has_own_number c.args.asked.now.l.now.profile f c.args.asked.now.config.now c.args.asked.now.column find k c.args.number)
    (asked c.args.asked.now.l.now.profile f c.args.asked.now.config.now c.args.asked.now.column find c.args.number c.in-Some.sample.now (looked_up c.args.asked.now.l.now.profile.sample c.args.number c.in-Some.sample.now there.0 there.1)
    c.filter_into.new.stack (sym (c.in_ok-filter_into.ensures.places f holds) ∙ ap (λ b. kept_if b c.filter_into.new.stack) c.if-not-branch.false) (λ e. c.if-selected-eq0.false (ap (of_z w64) (c.selected.ensures ∙ e))))
    (c.add_stack.ensures.found find verdicts)
