use Rattle.std.proofs.Common.{◌≡◌, map, take}
use Rattle.std.specs.List.{list_any}
use Rattle.pp_grain.specs.Words.{same_key}
use Rattle.pp_tree.proofs.own.marks.Given as goal

-- the names so far are marked
abbrev pub invariant-loop-number : goal.invariant-loop-number
invariant-loop-number l = l.marks ≡ map (λ key. list_any (same_key key) l.keys.keys) (take l.number l.names)
