use Rattle.std.proofs.Common.{None, refl, arith}
use Rattle.pp_desk.proofs.Leaves.{read_done}
use Rattle.pp_desk.specs.Asked.{world_by}
use Rattle.pp_desk.proofs.matcher_desk.MatcherDeskDesk.read_file.Goals as goal

-- files that tell nothing may answer so
pub returns-clause-went : goal.returns-clause-went
returns-clause-went g c = read_done (world_by c.args.self.now.matcher.ghost_name (g.M.Matcher.answers c.args.self.now.matcher.now)) None None None 0 _ _ _ tt refl refl refl (omega arith)
