use Rattle.pp_sums.proofs.Lines.{listed_lines_add_up}
use Rattle.pp_sums.proofs.listed.listed_lines_add_up.Goals as goal

pub returns : goal.returns
returns c = listed_lines_add_up
