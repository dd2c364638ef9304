use Rattle.std.proofs.Common.{None, refl, arith}
use Rattle.pp_desk.proofs.Leaves.{err_written}
use Rattle.pp_desk.specs.Asked.{world_by}
use Rattle.pp_desk.proofs.matcher_desk.MatcherDeskDesk.write_err.Goals as goal

-- nor does standard error tell more
pub returns : goal.returns
returns g c = err_written (world_by c.args.self.now.matcher.ghost_name (g.M.Matcher.answers c.args.self.now.matcher.now)) None 0 _ refl (omega arith)
