use Rattle.std.proofs.Common.{map, take}
use Rattle.pp_model.specs.FrameTexts.{written}
use Rattle.pp_count.proofs.Numbering.{Numbering}
use Rattle.pp_count.proofs.table.number_frames.Given as goal

-- the frames so far have their numbers
abbrev pub invariant-loop-frame : goal.invariant-loop-frame
invariant-loop-frame l = Numbering l.grouping.grain l.grouping.showcolumns l.l.profile l.initial.names l.names (map (written l.l.profile) (take l.frame-index l.stack)) l.row
