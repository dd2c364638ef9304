use Rattle.std.proofs.Common.{◌∙◌, sym}
use Rattle.std.proofs.lemmas.Bool.{false≢true}
use Rattle.pp_edit.proofs.counting.all_fit.Goals as goal

-- this column can't be added up
pub returns-then-not-fit : goal.returns-then-not-fit
returns-then-not-fit c = (
  λ never. absurd (false≢true never),
  λ all. absurd (false≢true (sym c.if-not-fit.true ∙ c.fit.ensures.1 (all c.loop-column.column c.loop-column-test.true))),
)
