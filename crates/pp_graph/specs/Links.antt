-- A graph as contracts see it: nodes, edges by number, and for each node the numbers of the edges that leave it and of
-- those that enter it.
use Rattle.std.specs.Prelude.{◌≡◌, ℕ, ◌<◌, ◌==◌, Bool, false, List, [], length, map, filter_map, slice_get, slice_set, slice_index_or, Option, None, IsSome}
use Rattle.std.specs.Option.{option_map_or}
use Rattle.pp_count.specs.declared.edge.Edge.{Edge}
use Rattle.pp_graph.specs.declared.node.Node.{Node}
use Rattle.pp_graph.specs.Lists.{once_if, occurrences, leave_out}

-- The nodes, the edge of each number, none where it was cut, and for each node two lists of edge numbers.
pub record EdgeLinks : Type 0 where
  pub nodes : List Node
  pub edges : List (Option Edge)
  pub outs : List (List ℕ)
  pub ins : List (List ℕ)

-- the edge of the number, none where it was cut or never was
abbrev pub numbered_edge : EdgeLinks → ℕ → Option Edge
numbered_edge g e = slice_index_or g.edges e None

-- the edge of the number wasn't cut
abbrev pub IsUncut : EdgeLinks → ℕ → Type 0
IsUncut g e = IsSome (numbered_edge g e)

-- the numbers of the edges that leave the node
abbrev pub out_at : EdgeLinks → ℕ → List ℕ
out_at g n = slice_index_or g.outs n []

-- the numbers of the edges that enter the node
abbrev pub in_at : EdgeLinks → ℕ → List ℕ
in_at g n = slice_index_or g.ins n []

-- the live edges, by rising number
abbrev pub live_edges : EdgeLinks → List Edge
live_edges g = filter_map (λ edge. edge) g.edges

-- the edge of the number leaves the node
abbrev pub leaves : EdgeLinks → ℕ → ℕ → Bool
leaves g n e = option_map_or (λ edge. edge.from == n) (numbered_edge g e) false

-- the edge of the number enters the node
abbrev pub enters : EdgeLinks → ℕ → ℕ → Bool
enters g n e = option_map_or (λ edge. edge.to == n) (numbered_edge g e) false

-- Each live edge stands once in the list of its caller and once in that of its callee, and no number stands elsewhere.
-- Both its ends are nodes. The name of a node is its number.
pub record AreEdgesLinked (g : EdgeLinks) : Type 0 where
  pub outs : length g.outs ≡ length g.nodes
  pub ins : length g.ins ≡ length g.nodes
  pub out : (n e : ℕ) → n < length g.nodes → occurrences e (out_at g n) ≡ once_if (leaves g n e)
  pub into : (n e : ℕ) → n < length g.nodes → occurrences e (in_at g n) ≡ once_if (enters g n e)
  pub ends : (e : ℕ) (edge : Edge) → slice_get g.edges e ≡ Option.Some (Option.Some edge)
      → (edge.from < length g.nodes) × (edge.to < length g.nodes)
  pub names : (n : ℕ) (node : Node) → slice_get g.nodes n ≡ Option.Some node → node.name ≡ n

-- The graph after the edge is cut: it stands in no list, and all else stays in its order.
abbrev pub without : ℕ → EdgeLinks → EdgeLinks
without e g = record {
  nodes = g.nodes;
  edges = slice_set g.edges e None;
  outs = map (leave_out e) g.outs;
  ins = map (leave_out e) g.ins;
}
