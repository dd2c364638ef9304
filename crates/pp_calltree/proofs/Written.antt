-- What is written of the nodes that are shown is the text of the call tree.
use Rattle.std.proofs.Common.{◌≡◌, ℕ, ◌-◌, List, length, map, Option, sym, ap, ◌∙◌}
use Rattle.std.proofs.lemmas.List.{length-map}
use Rattle.pp_model.specs.declared.config.Config.{Config}
use Rattle.pp_model.specs.declared.loaded.Loaded.{Loaded}
use Rattle.pp_model.specs.declared.verdicts.Verdicts.{Verdicts}
use Rattle.pp_model.specs.Finders.{Finders}
use Rattle.pp_units.specs.Head.{Facts}
use Rattle.pp_grain.specs.Keys.{key_cmp}
use Rattle.pp_count.specs.Seeing.{HoldsFilters}
use Rattle.pp_calltree.specs.declared.tree.PathNode.{PathNode}
use Rattle.pp_calltree.specs.CallTree.{all_lengths, path_samples, shown_nodes}
use Rattle.pp_calltree.specs.Laid.{node_row}
use Rattle.pp_calltree.specs.Shown.{is_heavy_row, pruned, AreShown}
use Rattle.pp_calltree.specs.Text.{path_nodes_text, calltree_text}
use Rattle.pp_calltree.specs.Tree.{IsTreeOf}
use Rattle.pp_calltree.proofs.Pruning.{pruned_is}

pub text_is : (l : Loaded) (v : Verdicts) (config : Config) (column : Option ℕ) (f : Finders) (nodes shown : List PathNode) (h : Facts)
    → IsTreeOf l v config column nodes → HoldsFilters l v config.filtering f → AreShown h.total config.presentation.nodefraction.billionths nodes shown
    → path_nodes_text h (length nodes - length shown) (map (node_row l.profile) shown) ≡ calltree_text l.profile f config column h
text_is l v config column f nodes shown h tree holds are =
    let rows : map (node_row l.profile) shown ≡ shown_nodes l.profile f config column h.total =
    are.rows l.profile
    ∙ ap (pruned (is_heavy_row h.total config.presentation.nodefraction.billionths) _) (tree.rows f holds)
    ∙ pruned_is key_cmp (is_heavy_row h.total config.presentation.nodefraction.billionths) (all_lengths (path_samples l.profile f config column)) 0 (path_samples l.profile f config column) in
    λ i. path_nodes_text h
    ((sym (length-map nodes (node_row l.profile)) ∙ ap length (tree.rows f holds)) i - (sym (length-map shown (node_row l.profile)) ∙ ap length rows) i) (rows i)
