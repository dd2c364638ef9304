use Rattle.std.proofs.Common.{None, refl, arith}
use Rattle.pp_desk.proofs.Going.{taken_none}
use Rattle.pp_desk.proofs.Leaves.{reads_line}
use Rattle.pp_desk.specs.Asked.{world_by}
use Rattle.pp_desk.specs.World.{intake}
use Rattle.pp_desk.specs.declared.line_reader.LineRead.TheVariants as reads
use Rattle.pp_desk.proofs.matcher_desk.MatcherDeskDesk.next_line.Goals as goal

-- nothing is known of the lines, and nothing is taken
pub returns : goal.returns
returns g c =
    reads_line (world_by c.args.self.now.matcher.ghost_name (g.M.Matcher.answers c.args.self.now.matcher.now)) None None 0 (intake None 0) reads.End (tt, refl) refl (omega arith) (taken_none (intake None 0))
    (record { reader = None; few = omega arith; are = refl }) (λ is. absurd (cc))
