use Rattle.std.proofs.Common.{◌≡◌, ap, ◌∙◌}
use Rattle.pp_model.specs.declared.profile.Profile.{Profile}
use Rattle.pp_top.specs.Changes.{changes_text}
use Rattle.pp_report.specs.Heads.{unit_text}
use Rattle.pp_report.proofs.FinishingLemmas.{made_text}
use Rattle.pp_report.proofs.comparing.changes.Goals as goal

-- the ranking's numbers are those of names
pub write_changes-requires-clause-below : goal.write_changes-requires-clause-below
write_changes-requires-clause-below g c =
    let s = c.args.subject.now.survey in
    (c.in_ok-ranked.ensures s.v.now s.column s.counts).below

-- it is the whole text
pub returns : goal.returns
returns g c = λ f holds.
    let s = c.args.subject.now.survey in
    let p = s.l.now.profile in
    let unit : c.unit_text-unit.result.now ≡ unit_text p s.column =
    c.unit_text-unit.ensures ∙ ap (λ (q : Profile). unit_text q s.column) c.get.ensures.same in
    made_text c.write_changes.new.out c.new-text.result _ c.new-text.ensures
    (c.in_ok-write_changes.ensures.ok c.limit_of-limit.result f
    (c.in_ok-ranked.ensures s.v.now s.column s.counts) holds (c.in_ok-base.ensures.sums f holds))
    ∙ (λ i. changes_text p f s.config.now s.column (c.limit_of-limit.ensures i) (unit i))
