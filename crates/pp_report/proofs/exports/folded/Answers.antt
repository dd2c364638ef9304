use Rattle.pp_report.proofs.FinishingLemmas.{made_text}
use Rattle.pp_report.proofs.exports.folded.Goals as goal

pub write_folded-requires : goal.write_folded-requires
write_folded-requires g c =
    let s = c.args.survey.now in
    (c.in_ok-sums.ensures s.l.now s.v.now s.config.now s.column c.in_ok-paths.ensures.same).keys

-- it is the whole text
pub returns : goal.returns
returns g c = λ f holds.
    let s = c.args.survey.now in
    made_text c.write_folded.new.out c.new-text.result _ c.new-text.ensures
    (c.in_ok-write_folded.ensures.ok s.v.now s.config.now s.column f (c.in_ok-sums.ensures s.l.now s.v.now s.config.now s.column c.in_ok-paths.ensures.same) holds)
