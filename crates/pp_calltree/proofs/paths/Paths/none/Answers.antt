use Rattle.pp_calltree.proofs.Kept.{kept_none}
use Rattle.pp_calltree.proofs.paths.Paths.none.Goals as goal

pub returns : goal.returns
returns c = kept_none (record { keys = c.new.result; parts = c.new-2.result }) c.new.ensures.items c.new-2.ensures.items
