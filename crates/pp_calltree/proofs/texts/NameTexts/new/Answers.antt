use Rattle.pp_calltree.proofs.Naming.{can_lay}
use Rattle.pp_calltree.proofs.texts.NameTexts.new.Goals as goal

pub returns : goal.returns
returns c = can_lay _ c.requires.compact c.requires.keys c.requires.distinct
