use Rattle.pp_units.specs.Words.{shown}
use Rattle.pp_tree.specs.Nodes.{near_text}
use Rattle.pp_tree.specs.Tree.{near_of}
use Rattle.pp_tree.specs.Ends.{neighbour_of}
use Rattle.pp_tree.proofs.Walking.{PuttingEach}
use Rattle.pp_tree.proofs.near.put_nears.Given as goal

-- the ends so far have their lines
abbrev pub invariant-loop-near : goal.invariant-loop-near
invariant-loop-near l = PuttingEach (λ x. near_text (shown l.head.unit) l.whole (near_of (neighbour_of x))) l.nears l.initial.out l.near-index l.out
