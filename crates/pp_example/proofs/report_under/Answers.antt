use Rattle.pp_example.proofs.report_under.Goals as goal

-- it was counted without verdicts
pub show_ranked-text-requires : goal.show_ranked-text-requires
show_ranked-text-requires g c = (c.no_verdicts-verdicts.result, c.in_ok-column.column, c.in_ok-counted.ensures)
