use Rattle.std.proofs.Common.{◌+◌, sym, subst, ◌∙◌}
use Rattle.pp_model.specs.Words.{NoRuleFails}
use Rattle.pp_load.specs.declared.reading.Read.{Read}
use Rattle.pp_load.specs.Sources.{IsCountableRead}
use Rattle.pp_load.proofs.ReadLemmas.{pushed_few}
use Rattle.pp_load.proofs.reading.push.Goals as goal

-- what was read can still be counted
pub returns-clause-few : goal.returns-clause-few
returns-clause-few c =
    let read : Read = record { profiles = c.args.read.profiles; size = c.args.read.size } in
    subst (λ profiles. IsCountableRead (record { profiles = profiles; size = c.args.read.size + c.args.len })) (sym c.in_ok-push.ensures.ok)
    (pushed_few read c.args.profile c.args.len c.requires.few c.requires.fits c.requires.own (subst NoRuleFails (c.get-valid.ensures.same ∙ c.valid.ensures) c.get-valid.ensures.valid) c.requires.starts)
