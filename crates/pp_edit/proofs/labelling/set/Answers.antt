use Rattle.std.proofs.Common.{◌≡◌, ap, sym, subst, true, ◌∙◌, rules}
use Rattle.std.specs.Prelude.{All}
use Rattle.pp_model.specs.Rules.{IsCompact, NoRuleFails}
use Rattle.pp_model.specs.Sizes.{IsCountable}
use Rattle.pp_build.specs.Said.{said_samples}
use Rattle.pp_share.specs.Described.{LabelText}
use Rattle.pp_edit.specs.Labels.{has_label, has_number, with_label_set}
use Rattle.pp_edit.proofs.WithLabelLemmas.{with_said, with_valid, with_has, with_has_number, with_countable, with_compact}
use Rattle.pp_edit.proofs.labelling.set.Goals as goal

-- what holds of the profile with the label
pub claim-requires : goal.claim-requires
claim-requires c =
    let l : LabelText = record { key = c.args.key.now; text = c.args.text.now; num = c.args.num; unit = c.args.unit.now } in
    let is : c.in_ok-p.p ≡ with_label_set c.args.p l = search rules in
    subst NoRuleFails (sym is) (with_valid c.args.p l (subst NoRuleFails c.into_profile-p.ensures.same c.into_profile-p.ensures.valid))

pub returns-clause-said : goal.returns-clause-said
returns-clause-said c =
    let l : LabelText = record { key = c.args.key.now; text = c.args.text.now; num = c.args.num; unit = c.args.unit.now } in
    let is : c.claim.result ≡ with_label_set c.args.p l = search rules in
    ap said_samples is ∙ with_said c.args.p l (subst NoRuleFails c.into_profile-p.ensures.same c.into_profile-p.ensures.valid)

pub returns-clause-countable : goal.returns-clause-countable
returns-clause-countable c countable =
    let l : LabelText = record { key = c.args.key.now; text = c.args.text.now; num = c.args.num; unit = c.args.unit.now } in
    let is : c.claim.result ≡ with_label_set c.args.p l = search rules in
    subst IsCountable (sym is) (with_countable c.args.p l (subst NoRuleFails c.into_profile-p.ensures.same c.into_profile-p.ensures.valid) countable)

pub returns-clause-compact : goal.returns-clause-compact
returns-clause-compact c compact =
    let l : LabelText = record { key = c.args.key.now; text = c.args.text.now; num = c.args.num; unit = c.args.unit.now } in
    let is : c.claim.result ≡ with_label_set c.args.p l = search rules in
    subst IsCompact (sym is) (with_compact c.args.p l (subst NoRuleFails c.into_profile-p.ensures.same c.into_profile-p.ensures.valid) compact)

pub returns-clause-text : goal.returns-clause-text
returns-clause-text c some =
    let l : LabelText = record { key = c.args.key.now; text = c.args.text.now; num = c.args.num; unit = c.args.unit.now } in
    let is : c.claim.result ≡ with_label_set c.args.p l = search rules in
    subst (λ q. All (λ s. has_label q l.key l.text s ≡ true) q.sample) (sym is) (with_has c.args.p l (subst NoRuleFails c.into_profile-p.ensures.same c.into_profile-p.ensures.valid) some)

pub returns-clause-number : goal.returns-clause-number
returns-clause-number c none =
    let l : LabelText = record { key = c.args.key.now; text = c.args.text.now; num = c.args.num; unit = c.args.unit.now } in
    let is : c.claim.result ≡ with_label_set c.args.p l = search rules in
    subst (λ q. All (λ s. has_number q l.key l.num l.unit s ≡ true) q.sample) (sym is) (with_has_number c.args.p l (subst NoRuleFails c.into_profile-p.ensures.same c.into_profile-p.ensures.valid) none)
