-- Edges cut out of graphs of three nodes.
use Rattle.std.proofs.Common.{◌≡◌, ℕ, pos, [], ◌∷◌, refl}
use Rattle.std.specs.Prelude.{Some}
use Rattle.pp_count.specs.declared.edge.Edge.{Edge}
use Rattle.pp_graph.specs.Links.{EdgeLinks, out_at, in_at, without}

-- an edge between two nodes
edge : ℕ → ℕ → ℕ → Edge
edge caller callee value = record { from = caller; to = callee; value = pos value }

-- node 0 calls 1 and 2
abbrev fork : EdgeLinks
fork = record {
  nodes = [];
  edges = Some (edge 0 1 1) ∷ Some (edge 0 2 1) ∷ [];
  outs = (1 ∷ 0 ∷ []) ∷ [] ∷ [] ∷ [];
  ins = [] ∷ (0 ∷ []) ∷ (1 ∷ []) ∷ [];
}

-- without the edge to 1, the edge to 2 alone leaves 0
one_callee : out_at (without 0 fork) 0 ≡ 1 ∷ []
one_callee = refl

no_caller : in_at (without 0 fork) 1 ≡ []
no_caller = refl

-- 0 calls 1 and 2, 1 calls 2, and 2 calls 0
abbrev round : EdgeLinks
round = record {
  nodes = [];
  edges = Some (edge 0 1 1) ∷ Some (edge 0 2 2) ∷ Some (edge 1 2 3) ∷ Some (edge 2 0 4) ∷ [];
  outs = (1 ∷ 0 ∷ []) ∷ (2 ∷ []) ∷ (3 ∷ []) ∷ [];
  ins = (3 ∷ []) ∷ (0 ∷ []) ∷ (2 ∷ 1 ∷ []) ∷ [];
}

-- without the two edges of 0, first that to 2 and then that to 1
abbrev cut_twice : EdgeLinks
cut_twice = without 0 (without 1 round)

no_callee : out_at cut_twice 0 ≡ []
no_callee = refl

other_caller : in_at cut_twice 2 ≡ 2 ∷ []
other_caller = refl

no_caller_left : in_at cut_twice 1 ≡ []
no_caller_left = refl

callee_kept : out_at cut_twice 2 ≡ 3 ∷ []
callee_kept = refl
