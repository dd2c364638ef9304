use Rattle.std.proofs.Common.{◌≡◌, take}
use Rattle.pp_graph.specs.Cuts.{kept_flags}
use Rattle.pp_library.proofs.edging.kept.Given as goal

-- the numbers so far are kept
abbrev pub invariant-loop-number : goal.invariant-loop-number
invariant-loop-number l = l.keep ≡ kept_flags l.names (take l.number-index l.order)
