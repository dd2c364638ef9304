use Rattle.std.proofs.Common.{◌≡◌, ◌++◌, length}
use Rattle.pp_pseudo.specs.KeyList.{key_list}
use Rattle.pp_pseudo.proofs.keys.key_list.Given as goal

-- the keys so far, and those of the rest
abbrev pub invariant-loop-part : goal.invariant-loop-part
invariant-loop-part l = l.keys ++ key_list l.rest ≡ key_list l.fn.text

abbrev pub decreases-loop-part : goal.decreases-loop-part
decreases-loop-part l = length l.rest
