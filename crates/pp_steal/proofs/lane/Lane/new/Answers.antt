use Rattle.pp_steal.proofs.Making.{make_at, its_pieces}
use Rattle.pp_steal.proofs.lane.Lane.new.Goals as goal

pub returns-clause-make : goal.returns-clause-make
returns-clause-make c = make_at c.args.parts.chairs.items c.args.parts.deal c.args.parts.pieces

pub returns-clause-dealt : goal.returns-clause-dealt
returns-clause-dealt c = its_pieces c.args.parts.deal c.args.parts.pieces c.args.own c.args.parts.chairs.items _ c.requires.ready.1
