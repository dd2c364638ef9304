use Rattle.std.proofs.Common.{subst}
use Rattle.pp_model.specs.Rules.{NoRuleFails}
use Rattle.pp_report.proofs.ProtoLemmas.{proto_of}
use Rattle.pp_report.proofs.texts.proto.Goals as goal

-- the text was written of what was saved
pub returns : goal.returns
returns g c = λ f holds.
    proto_of c.args.survey.now.l.now.profile f c.args.survey.now.config.now.filtering c.in_ok-saved.saved c.valid.result.now c.write_profile_on.result
    c.valid.ensures.same (c.in_ok-saved.ensures.saved f holds) c.in_ok-saved.ensures.lasts
    (subst NoRuleFails c.get-profile.ensures.same c.get-profile.ensures.valid) c.in_ok-saved.ensures.starts
    c.write_profile_on.ensures.bytes c.write_profile_on.ensures.again
