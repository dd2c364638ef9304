use Rattle.std.proofs.Common.{sym, ◌∙◌}
use Rattle.pp_load.proofs.DecodeLemmas.{written_loaded, legacy_valid, legacy_loaded}
use Rattle.pp_alike.proofs.AlikeLemmas.{runs_alike}
use Rattle.pp_alike.proofs.decoded.bytes_decoded_alike_run_alike.Goals as goal

pub returns-clause-alike : goal.returns-clause-alike
returns-clause-alike c = runs_alike

-- a CPU profile is decoded as the canonical bytes are
pub returns-clause-gperftools : goal.returns-clause-gperftools
returns-clause-gperftools c path files other bytes p differ is given fits short =
    runs_alike path files other bytes _ differ
    (λ source. legacy_loaded source bytes p is given ∙ sym (written_loaded source p (legacy_valid bytes p given) fits short))
