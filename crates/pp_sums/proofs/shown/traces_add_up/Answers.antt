use Rattle.pp_sums.proofs.Showing.{traces_add_up}
use Rattle.pp_sums.proofs.shown.traces_add_up.Goals as goal

pub returns : goal.returns
returns c = traces_add_up
