use Rattle.std.proofs.Common.{take}
use Rattle.pp_pseudo.specs.Values.{key_values}
use Rattle.pp_pseudo.proofs.FrameNameLemmas.{HasValues}
use Rattle.pp_pseudo.proofs.frame_name.put_frame_name.Given as goal

-- the values of the labels so far
abbrev pub invariant-loop-label : goal.invariant-loop-label
invariant-loop-label l = HasValues l.key (key_values l.p l.key (take l.label-index l.labels)) l.found l.name
