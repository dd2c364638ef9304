-- The text of the peek report: the nodes that its pattern finds, with all their callers and callees.
use Rattle.std.specs.Prelude.{ℕ, pos, Bool, true, false, List, ◌++◌, map, Option}
use Rattle.std.specs.List.{filter}
use Rattle.std.specs.Option.{option_map_or}
use Rattle.pp_model.specs.declared.config.Config.{Config}
use Rattle.pp_model.specs.declared.presentation.Presentation.{Presentation}
use Rattle.pp_model.specs.declared.profile.Profile.{Profile}
use Rattle.pp_model.specs.Finders.{Finder, Finders}
use Rattle.pp_model.specs.FrameTexts.{Written}
use Rattle.pp_units.specs.Head.{Facts, facts_text}
use Rattle.pp_units.specs.Rows.{showing_line}
use Rattle.pp_graph.specs.Figures.{Figures, figures}
use Rattle.pp_graph.specs.Trim.{ordered_keys}
use Rattle.pp_graph.specs.KeyRows.{flat_sum}
use Rattle.pp_tree.specs.Nodes.{table_heading, tree_nodes_text}
use Rattle.pp_tree.specs.Tree.{node_of}

-- what a report's own pattern finds of a text, nothing where there is none
abbrev pub own_finds : Option Finder → List ℕ → Bool
own_finds own text = option_map_or (λ find. find text) own false

-- Whether the own pattern finds the function of a frame that counts and has the key.
abbrev pub is_found_key : Profile → Finders → Config → Option ℕ → Written → Bool
is_found_key p f config column k = (figures p f config column).finds (own_finds f.own) k

-- The text of the peek report of these figures, by its own pattern: its head, which accounts for all keys, the heading,
-- and the nodes that the pattern finds, in report order, with all their callers and callees.
abbrev pub peek_layout : Figures → Presentation → Option Finder → Facts → List ℕ
peek_layout g presentation own h =
    let keys = ordered_keys g presentation.sort in
    facts_text h
    ++ showing_line h.unit h.total (flat_sum g keys)
    ++ table_heading
    ++ tree_nodes_text h.unit h.total (pos 0)
    (map (node_of g (λ _. true) 0) (filter (g.finds (own_finds own)) keys))

-- The text of the peek report.
abbrev pub peek_text : Profile → Finders → Config → Option ℕ → Facts → List ℕ
peek_text p f config column h =
    peek_layout (figures p f config column) config.presentation f.own h
