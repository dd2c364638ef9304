use Rattle.std.proofs.Common.{◌≡◌, ◌++◌, drop}
use Rattle.pp_model.specs.Frames.{frames_from}
use Rattle.pp_model.proofs.frame.push_frames.Given as goal

-- the frames so far and those of the locations that are left
abbrev pub invariant-loop-place : goal.invariant-loop-place
invariant-loop-place l = l.stack ++ frames_from l.p l.place (drop l.place l.id-items) ≡ frames_from l.p 0 l.id-items
