use Rattle.std.proofs.Common.{◌++◌, ◌∙◌, ap, sym}
use Rattle.pp_check.specs.declared.fault.Table.TheVariants.{Locations}
use Rattle.pp_check.specs.declared.known.IdSet.{IdSet}
use Rattle.pp_check.specs.Finds.{rule_fault}
use Rattle.pp_check.specs.FirstFault.{location_faults, reference_faults}
use Rattle.pp_check.proofs.SoundLemmas.{tenth_left}
use Rattle.pp_check.proofs.Stages.{passed_on, raised_last, later, later_none}
use Rattle.pp_check.proofs.checking.try_locations.Goals as goal

-- rule 10 alone is left, and fails
pub returns-in_err-refuse : goal.returns-in_err-refuse
returns-in_err-refuse c =
    let p = c.args.p.now in
    raised_last (location_faults p ++ reference_faults p) _ c.in_err-refuse.field-0.0 c.from_residual.ensures.1
    (tenth_left p (c.requires.sound c.in-Sound.is) ∙ ap (rule_fault 10 Locations) (sym c.location_fault.ensures.fault) ∙ c.in_err-refuse.ensures)

-- rule 10 alone is left, and holds
pub returns-in-Sound : goal.returns-in-Sound
returns-in-Sound c =
    tenth_left c.args.p.now (c.requires.sound c.in-Sound.is) ∙ ap (rule_fault 10 Locations) (sym c.location_fault.ensures.fault) ∙ c.in_ok-refuse.ensures

pub returns-in_err-locations : goal.returns-in_err-locations
returns-in_err-locations c =
    let p = c.args.p.now in
    passed_on IdSet (location_faults p) (reference_faults p) _ c.in_err-locations.field-0.0 c.from_residual-in_err-locations.ensures.1 c.in_err-locations.ensures.faults

pub returns-in_err-try_references : goal.returns-in_err-try_references
returns-in_err-try_references c =
    let p = c.args.p.now in
    later (location_faults p) (reference_faults p) _ c.in_ok-locations.ensures.faults
    (raised_last (reference_faults p) _ c.in_err-try_references.field-0.0 c.from_residual-in_err-try_references.ensures.1 c.in_err-try_references.ensures)

pub returns : goal.returns
returns c = later_none (location_faults c.args.p.now) (reference_faults c.args.p.now) c.in_ok-locations.ensures.faults c.in_ok-try_references.ensures
