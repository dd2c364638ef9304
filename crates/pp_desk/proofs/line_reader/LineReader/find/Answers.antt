use Rattle.std.proofs.Common.{◌∙◌, sym}
use Rattle.std.proofs.lemmas.Bool.{false≢true}
use Rattle.std.proofs.lemmas.List.Folds.{list_any_none}
use Rattle.pp_base.specs.Words.{is_line_end}
use Rattle.pp_desk.specs.Reader.{pending}
use Rattle.pp_desk.proofs.line_reader.LineReader.find.Goals as goal

-- the source is read only where no line end is held
pub returns-clause-held : goal.returns-clause-held
returns-clause-held g c = λ held. absurd (false≢true (sym (list_any_none is_line_end (pending c.args.self.now) c.in_default.ensures.found) ∙ held))
