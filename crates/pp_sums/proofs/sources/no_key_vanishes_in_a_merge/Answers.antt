use Rattle.pp_sums.proofs.Sourced.{no_key_vanishes}
use Rattle.pp_sums.proofs.sources.no_key_vanishes_in_a_merge.Goals as goal

pub returns : goal.returns
returns c = no_key_vanishes
