use Rattle.pp_desk.proofs.Leaves.{asked_found, asked_refused, ask_wanted}
use Rattle.pp_desk.specs.Asked.{world_by}
use Rattle.pp_desk.proofs.matcher_desk.MatcherDeskDesk.ask.Goals as goal

-- the answer is the matcher's
pub returns-in-Found : goal.returns-in-Found
returns-in-Found g c = asked_found (world_by c.args.self.now.matcher.ghost_name (g.M.Matcher.answers c.args.self.now.matcher.now)) g.M.Matcher.finds _ _ _ _ c.in-Found.ensures.0 c.in-Found.ensures.1

pub returns-in-Refused : goal.returns-in-Refused
returns-in-Refused g c = asked_refused (world_by c.args.self.now.matcher.ghost_name (g.M.Matcher.answers c.args.self.now.matcher.now)) g.M.Matcher.finds _ _ _ c.in-Refused.ensures

pub returns-in-Memory : goal.returns-in-Memory
returns-in-Memory g c = ask_wanted (world_by c.args.self.now.matcher.ghost_name (g.M.Matcher.answers c.args.self.now.matcher.now)) g.M.Matcher.finds _ _ _ c.in-Memory.ensures
