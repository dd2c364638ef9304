-- The text of the tree report: the lines of its head, and the nodes that it shows between their callers and callees.
use Rattle.std.specs.Prelude.{ℕ, ℤ, pos, Bool, List, ◌++◌, length, map, Option}
use Rattle.pp_model.specs.declared.config.Config.{Config}
use Rattle.pp_model.specs.declared.presentation.Presentation.{Presentation}
use Rattle.pp_model.specs.declared.profile.Profile.{Profile}
use Rattle.pp_model.specs.Finders.{Finders}
use Rattle.pp_model.specs.FrameTexts.{Written}
use Rattle.pp_units.specs.Head.{Facts, facts_text}
use Rattle.pp_units.specs.Rows.{showing_line, dropped_line, limited_line}
use Rattle.pp_units.specs.Rows as lines
use Rattle.pp_grain.specs.Keys.{key_cmp}
use Rattle.pp_grain.specs.Naming.{name_text}
use Rattle.pp_count.specs.Sums.{has}
use Rattle.pp_graph.specs.Figures.{Figures, figures}
use Rattle.pp_graph.specs.Neighbours.{Neighbour, callers_of, callees_of}
use Rattle.pp_graph.specs.Trim.{heavy_keys, shown_keys, light_key_count, light_pair_count}
use Rattle.pp_graph.specs.KeyRows.{key_row, flat_sum}
use Rattle.pp_tree.specs.Nodes.{Near, Node, table_heading, tree_nodes_text}

-- the other end of an edge, as it is printed
abbrev pub near_of : Neighbour Written → Near
near_of neighbour = record { value = neighbour.value; name = name_text neighbour.key }

-- a key with its callers and callees over the keys that are kept, by edges of at least this fraction of the total
abbrev pub node_of : Figures → (Written → Bool) → ℕ → Written → Node
node_of g kept billionths k = record {
  row = key_row g k;
  callers = map near_of (callers_of g kept billionths k);
  callees = map near_of (callees_of g kept billionths k);
}

-- what the nodes account for, how many nodes and edges are too light, and how many of the other nodes are shown
abbrev pub summary_text : Facts → ℤ → ℕ → ℕ → ℕ → ℕ → List ℕ
summary_text h sum nodes edges shown candidates =
    showing_line h.unit h.total sum ++ dropped_line lines.dropped_nodes nodes
    ++ dropped_line lines.dropped_edges edges ++ limited_line shown candidates

-- the text of the tree report of these figures, with this limit, where 0 is none
abbrev pub tree_layout : Figures → Presentation → ℕ → Facts → List ℕ
tree_layout g presentation limit h =
    let candidates = heavy_keys g presentation in
    let shown = shown_keys limit candidates in
    facts_text h
    ++ summary_text h (flat_sum g shown) (light_key_count g presentation)
    (light_pair_count g presentation shown) (length shown) (length candidates)
    ++ table_heading
    ++ tree_nodes_text h.unit h.total (pos 0)
    (map (node_of g (λ k. has key_cmp k shown) presentation.edgefraction.billionths) shown)

-- The text of the tree report with this limit: its head, the heading, and the nodes in report order.
abbrev pub tree_text : Profile → Finders → Config → Option ℕ → ℕ → Facts → List ℕ
tree_text p f config column limit h =
    tree_layout (figures p f config column) config.presentation limit h
