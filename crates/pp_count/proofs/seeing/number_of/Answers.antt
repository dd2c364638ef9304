use Rattle.pp_count.proofs.Sights.{number_is, number_there}
use Rattle.pp_count.proofs.seeing.number_of.Goals as goal

pub row-row-requires : goal.row-row-requires
row-row-requires c =
    (number_is c.args.scope.now.l.now.profile c.args.scope.now.grouping c.args.scope.now.table.now c.args.frame.now c.requires.table c.requires.frame).location

pub item-requires : goal.item-requires
item-requires c =
    (number_there c.args.scope.now.l.now.profile c.args.scope.now.grouping c.args.scope.now.table.now c.args.frame.now c.row-row.result.now c.unwrap_or.result c.requires.table c.requires.frame c.row-row.ensures c.unwrap_or.ensures).within

pub returns-clause-below : goal.returns-clause-below
returns-clause-below c =
    rw c.item.ensures
    (number_there c.args.scope.now.l.now.profile c.args.scope.now.grouping c.args.scope.now.table.now c.args.frame.now c.row-row.result.now c.unwrap_or.result c.requires.table c.requires.frame c.row-row.ensures c.unwrap_or.ensures).below

pub returns-clause-named : goal.returns-clause-named
returns-clause-named c =
    rw c.item.ensures
    (number_there c.args.scope.now.l.now.profile c.args.scope.now.grouping c.args.scope.now.table.now c.args.frame.now c.row-row.result.now c.unwrap_or.result c.requires.table c.requires.frame c.row-row.ensures c.unwrap_or.ensures).named
