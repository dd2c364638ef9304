use Rattle.std.proofs.Common.{◌≡◌, ◌≤◌, false}
use Rattle.std.specs.Prelude.{option_map}
use Rattle.pp_desk.specs.Finding.{HasNoEnd}
use Rattle.pp_desk.specs.Reader.{pending, to_come}
use Rattle.pp_desk.specs.World.{intake, HasTaken}
use Rattle.pp_desk.proofs.line_reader.LineReader.read_on.Given as goal

-- no line has ended yet, and the same lines are to come
abbrev pub invariant-reading : goal.invariant-reading
invariant-reading g l = record {
  none : HasNoEnd (pending l.self);
  reading : l.self.ended ≡ false;
  same : option_map (to_come l.self) (g.I.Source.left l.input) ≡ option_map (to_come l.fn.self) (g.I.Source.left l.fn.input);
  taken : HasTaken (intake (g.I.Source.left l.fn.input) l.fn.self.room) (intake (g.I.Source.left l.input) l.self.room);
  later : g.I.Source.faults l.fn.input ≤ g.I.Source.faults l.input;
}

-- each read takes a byte
abbrev pub decreases-reading : goal.decreases-reading
decreases-reading g l = l.self.room
