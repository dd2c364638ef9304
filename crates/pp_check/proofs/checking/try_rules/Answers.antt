use Rattle.std.proofs.Common.{◌++◌, List}
use Rattle.std.specs.Prelude.{Option}
use Rattle.pp_model.specs.declared.profile.Profile.{Profile}
use Rattle.pp_check.specs.declared.fault.TableFault.{TableFault}
use Rattle.pp_check.specs.declared.known.IdSet.{IdSet}
use Rattle.pp_check.specs.FirstFault.{text_faults, mapping_faults, function_faults, location_faults, reference_faults}
use Rattle.pp_check.proofs.Stages.{opened, passed_on, raised, later}
use Rattle.pp_check.proofs.checking.try_rules.Goals as goal

-- what comes after each stage
abbrev from_locations : Profile → List (Option TableFault)
from_locations p = location_faults p ++ reference_faults p

abbrev from_functions : Profile → List (Option TableFault)
from_functions p = function_faults p ++ from_locations p

abbrev from_mappings : Profile → List (Option TableFault)
from_mappings p = mapping_faults p ++ from_functions p

pub returns-in_err-try_texts : goal.returns-in_err-try_texts
returns-in_err-try_texts c =
    let p = c.args.p.now in
    opened p _ (raised (text_faults p) (from_mappings p) _ c.in_err-try_texts.field-0.0 c.from_residual.ensures.1 c.in_err-try_texts.ensures)

pub returns-in_err-mappings : goal.returns-in_err-mappings
returns-in_err-mappings c =
    let p = c.args.p.now in
    opened p _ (later (text_faults p) (from_mappings p) _ c.in_ok-try_texts.ensures
    (passed_on IdSet (mapping_faults p) (from_functions p) _ c.in_err-mappings.field-0.0 c.from_residual-in_err-mappings.ensures.1 c.in_err-mappings.ensures.faults))

pub returns-in_err-functions : goal.returns-in_err-functions
returns-in_err-functions c =
    let p = c.args.p.now in
    opened p _ (later (text_faults p) (from_mappings p) _ c.in_ok-try_texts.ensures
    (later (mapping_faults p) (from_functions p) _ c.in_ok-mappings.ensures.faults
    (passed_on IdSet (function_faults p) (from_locations p) _ c.in_err-functions.field-0.0 c.from_residual-in_err-functions.ensures.1 c.in_err-functions.ensures.faults)))

pub returns : goal.returns
returns c =
    let p = c.args.p.now in
    opened p _ (later (text_faults p) (from_mappings p) _ c.in_ok-try_texts.ensures
    (later (mapping_faults p) (from_functions p) _ c.in_ok-mappings.ensures.faults
    (later (function_faults p) (from_locations p) _ c.in_ok-functions.ensures.faults c.try_locations.ensures)))
