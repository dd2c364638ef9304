use Rattle.std.proofs.Common.{None, refl, arith}
use Rattle.pp_desk.proofs.Leaves.{written}
use Rattle.pp_desk.specs.Asked.{world_by}
use Rattle.pp_desk.proofs.matcher_desk.MatcherDeskDesk.write_file.Goals as goal

-- they go on telling nothing
pub returns : goal.returns
returns g c = written (world_by c.args.self.now.matcher.ghost_name (g.M.Matcher.answers c.args.self.now.matcher.now)) None None None 0 _ _ refl refl refl tt (omega arith)
