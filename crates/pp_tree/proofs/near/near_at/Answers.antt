use Rattle.std.proofs.Common.{◌∙◌}
use Rattle.pp_graph.proofs.KeyRowLemmas.{name_is_key, name_written}
use Rattle.pp_tree.proofs.near.near_at.Goals as goal

pub texts_of-requires : goal.texts_of-requires
texts_of-requires c = name_is_key _ c.args.names.now c.args.number c.key.result c.requires.keys c.key.ensures

pub returns-clause-key : goal.returns-clause-key
returns-clause-key c = c.texts_of.ensures ∙ name_written c.args.p.now c.args.names.now c.args.number c.key.result c.key.ensures
