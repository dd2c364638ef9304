use Rattle.std.proofs.Common.{◌≡◌, map, take}
use Rattle.std.specs.Str.{bytes_eq}
use Rattle.pp_edit.proofs.key.key_in.Given as goal

-- the verdicts so far
abbrev pub invariant-loop-text : goal.invariant-loop-text
invariant-loop-text l = l.are ≡ map (bytes_eq l.key) (take l.text-index l.texts)
