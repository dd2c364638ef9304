use Rattle.std.proofs.Common.{◌++◌, ap, ◌∙◌}
use Rattle.pp_base.proofs.TextLemmas.{then_ok}
use Rattle.pp_samples.proofs.trace.put_frame.Goals as goal

-- the line that is made
pub returns-in-Some : goal.returns-in-Some
returns-in-Some c = then_ok c.extend.result (λ is. is ∙ ap (λ line. c.args.lines.now ++ line) c.in-Some.ensures) c.extend.ensures.ok
