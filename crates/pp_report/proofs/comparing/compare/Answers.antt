use Rattle.std.proofs.Common.{ap, ◌∙◌}
use Rattle.pp_units.specs.Head.{facts}
use Rattle.pp_top.specs.Compare.{compare_text}
use Rattle.pp_report.proofs.FinishingLemmas.{made_text}
use Rattle.pp_report.proofs.comparing.compare.Goals as goal

-- the ranking's numbers are those of names
pub write_compare-requires-clause-below : goal.write_compare-requires-clause-below
write_compare-requires-clause-below g c =
    let s = c.args.subject.now.survey in
    (c.in_ok-ranked.ensures s.v.now s.column s.counts).below

-- it is the whole text
pub returns : goal.returns
returns g c = λ f holds.
    let s = c.args.subject.now.survey in
    made_text c.write_compare.new.out c.new-text.result _ c.new-text.ensures
    (c.in_ok-write_compare.ensures.ok c.limit_of-limit.result f
    (c.in_ok-ranked.ensures s.v.now s.column s.counts) holds (c.in_ok-base.ensures.sums f holds))
    ∙ ap (λ limit. compare_text s.l.now.profile f s.config.now s.column limit (facts c.args.subject.now.head.now)) c.limit_of-limit.ensures
