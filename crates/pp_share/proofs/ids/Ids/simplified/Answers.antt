use Rattle.pp_share.proofs.KeptIds.{given_texts}
use Rattle.pp_share.proofs.ids.Ids.simplified.Goals as goal

-- the list is the one that is given
pub returns-in-By : goal.returns-in-By
returns-in-By c = λ ids is. given_texts c.ids_by.result c.args.self c.in-By.ids ids c.in-By.is is c.ids_by.ensures.texts

pub returns-in_default : goal.returns-in_default
returns-in_default c = λ ids is. absurd (c.in_default.not-By ids is)
