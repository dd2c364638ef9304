use Rattle.std.proofs.Common.{ap, ◌∙◌}
use Rattle.pp_dump.specs.Raw.{raw_text}
use Rattle.pp_report.proofs.FinishingLemmas.{made_text}
use Rattle.pp_report.proofs.texts.raw.Goals as goal

-- it is the text of the saved profile
pub returns : goal.returns
returns g c = λ f holds.
    made_text c.write_raw.new.out c.new-text.result _ c.new-text.ensures c.in_ok-write_raw.ensures.ok
    ∙ ap raw_text (c.in_ok-saved.ensures.saved f holds)
