use Rattle.pp_laws.proofs.Parting.{patterns_part}
use Rattle.pp_laws.proofs.parts.focus_and_ignore_part.Goals as goal

pub returns : goal.returns
returns c = patterns_part
