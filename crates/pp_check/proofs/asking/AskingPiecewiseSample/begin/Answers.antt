use Rattle.std.proofs.Common.{refl}
use Rattle.pp_share.specs.SampleKeys.{sample_hash}
use Rattle.pp_check.proofs.asking.AskingPiecewiseSample.begin.Goals as goal

-- no sample is asked yet
pub returns : goal.returns
returns c = record { sound = refl; hashes = c.in_ok-hashes.ensures sample_hash }
