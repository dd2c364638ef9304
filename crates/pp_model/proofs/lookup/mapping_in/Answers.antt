use Rattle.std.proofs.Common.{ap}
use Rattle.pp_model.specs.declared.profile.Location.{Location}
use Rattle.pp_model.specs.Rules.{mapping_has_texts}
use Rattle.pp_model.proofs.LookupLemmas.{mapping_read, reference_passes}
use Rattle.pp_model.proofs.RuleLemmas.{passes}
use Rattle.pp_model.proofs.lookup.mapping_in.Goals as goal

pub returns-clause-same : goal.returns-clause-same
returns-clause-same c =
    mapping_read c.args.p.now _ _ _ _ c.as_slice.ensures (ap (λ (l : Location). l.mapping_id) c.location_in.ensures) c.with_id.ensures
    c.requires.compact.mappings

pub returns-clause-texts : goal.returns-clause-texts
returns-clause-texts c =
    reference_passes (mapping_has_texts c.args.p.now) _ _ _ _ c.as_slice.ensures c.with_id.ensures
    (passes (mapping_has_texts c.args.p.now) _ c.requires.valid.mapping_text)
