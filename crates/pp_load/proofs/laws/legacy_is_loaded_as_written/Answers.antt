use Rattle.std.proofs.Common.{sym, ◌∙◌}
use Rattle.pp_load.proofs.DecodeLemmas.{written_loaded, legacy_valid, legacy_loaded}
use Rattle.pp_load.proofs.laws.legacy_is_loaded_as_written.Goals as goal

pub returns-clause-valid : goal.returns-clause-valid
returns-clause-valid c = legacy_valid

pub returns-clause-same : goal.returns-clause-same
returns-clause-same c source bytes p is given fits short =
    legacy_loaded source bytes p is given ∙ sym (written_loaded source p (legacy_valid bytes p given) fits short)
