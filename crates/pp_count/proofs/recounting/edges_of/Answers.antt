use Rattle.std.proofs.Common.{pos}
use Rattle.pp_count.proofs.recounting.edges_of.Goals as goal

pub edge_of-requires : goal.edge_of-requires
edge_of-requires c = c.requires c.loop-sum.sum-index (record { key = 0; flat = pos 0; cum = pos 0 }) c.loop-sum-test.true
