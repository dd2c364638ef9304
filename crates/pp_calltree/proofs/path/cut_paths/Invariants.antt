use Rattle.pp_calltree.proofs.Kept.{CutTo}
use Rattle.pp_calltree.proofs.path.cut_paths.Given as goal

-- the paths so far
abbrev pub invariant-loop-part : goal.invariant-loop-part
invariant-loop-part l = CutTo l.keys l.parts l.part-index l.rest l.paths.items
