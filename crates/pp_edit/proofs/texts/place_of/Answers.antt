use Rattle.std.proofs.Common.{length, ◌∙◌, ap}
use Rattle.std.specs.Option.{unwrap_or}
use Rattle.pp_edit.proofs.TextLemmas.{place_or}
use Rattle.pp_edit.proofs.texts.place_of.Goals as goal

-- the first place
pub returns : goal.returns
returns c = c.unwrap_or.ensures ∙ ap (λ place. unwrap_or place (length c.args.texts.now)) c.find_text.ensures ∙ place_or c.args.text.now c.args.texts.now
