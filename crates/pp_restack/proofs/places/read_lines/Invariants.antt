use Rattle.std.proofs.Common.{◌≡◌, take}
use Rattle.pp_restack.specs.Stacks.{lines_of_frames}
use Rattle.pp_restack.proofs.places.read_lines.Given as goal

-- the lines of the frames so far
abbrev pub invariant-loop-frame : goal.invariant-loop-frame
invariant-loop-frame l = l.lines ≡ lines_of_frames l.p (take l.frame-index l.group)
