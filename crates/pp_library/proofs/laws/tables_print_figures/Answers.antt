use Rattle.pp_library.proofs.FigureLemmas.{tables_print_figures}
use Rattle.pp_library.proofs.laws.tables_print_figures.Goals as goal

pub returns : goal.returns
returns c = tables_print_figures
