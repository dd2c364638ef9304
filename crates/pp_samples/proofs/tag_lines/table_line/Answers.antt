use Rattle.pp_samples.proofs.Ranking.{entry_is}
use Rattle.pp_samples.proofs.tag_lines.table_line.Goals as goal

pub returns-clause-entry : goal.returns-clause-entry
returns-clause-entry c events is =
    entry_is events c.args.table.now.names c.args.table.now.sums.items is c.args.number _ _ c.requires.within c.name.ensures c.index.ensures
