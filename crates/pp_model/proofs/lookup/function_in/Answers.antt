use Rattle.pp_model.specs.Rules.{function_has_texts}
use Rattle.pp_model.proofs.LookupLemmas.{function_read, reference_passes}
use Rattle.pp_model.proofs.RuleLemmas.{passes}
use Rattle.pp_model.proofs.lookup.function_in.Goals as goal

pub returns-clause-same : goal.returns-clause-same
returns-clause-same c =
    function_read c.args.p.now c.args.f.now _ _ _ c.in_ok-line.ensures c.as_slice.ensures c.with_id.ensures c.requires.compact.functions

pub returns-clause-texts : goal.returns-clause-texts
returns-clause-texts c =
    reference_passes (function_has_texts c.args.p.now) _ _ _ _ c.as_slice.ensures c.with_id.ensures
    (passes (function_has_texts c.args.p.now) _ c.requires.valid.function_text)
