use Rattle.pp_sums.proofs.Parts.{parts_add_up}
use Rattle.pp_sums.proofs.finer.parts_add_up.Goals as goal

pub returns : goal.returns
returns c = parts_add_up
