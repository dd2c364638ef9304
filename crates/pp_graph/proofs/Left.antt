-- What `trim` gives is the graph of the report.
use Rattle.std.proofs.Common.{◌≡◌, ℕ, ◌<◌, cond, List, [], ◌∷◌, length, map, Option, refl, sym, ap, subst, ◌∙◌}
use Rattle.std.specs.List.{filter}
use Rattle.pp_model.specs.declared.config.Config.{Config}
use Rattle.pp_model.specs.declared.loaded.Loaded.{Loaded}
use Rattle.pp_model.specs.declared.verdicts.Verdicts.{Verdicts}
use Rattle.pp_model.specs.Finders.{Finders}
use Rattle.pp_grain.specs.Keys.{key_cmp}
use Rattle.pp_count.specs.declared.counted.Counted.{Counted}
use Rattle.pp_count.specs.declared.edge.Edge.{Edge}
use Rattle.pp_count.specs.Sums.{has}
use Rattle.pp_count.specs.Seeing.{HoldsFilters}
use Rattle.pp_count.specs.EdgeSums.{edge_sum, edges_between, AreEdgesOf}
use Rattle.pp_count.specs.Counted.{IsCountedOf, report_samples}
use Rattle.pp_count.specs.Table.{written_key}
use Rattle.pp_graph.specs.declared.trimming.Trimmed.{Trimmed}
use Rattle.pp_graph.specs.Cuts.{kept_flags, is_heavy_edge, is_light_edge}
use Rattle.pp_graph.specs.Links.{AreEdgesLinked, live_edges}
use Rattle.pp_graph.specs.Sampled.{has_heavy_edge, light_edge_count}
use Rattle.pp_graph.specs.Trimmed.{HasNodes, IsRankedOf, IsTrimmedOf}
use Rattle.pp_graph.proofs.Between.{heavy_between, light_count_is}

module _ (l : Loaded) (v : Verdicts) (config : Config) (column : Option ℕ) (limit : ℕ) (c : Counted) (counted : IsCountedOf l v config column c) (t : Trimmed)
    (ranked : IsRankedOf l v config column limit c t.ranked) (edges : List Edge)
    (are : (f : Finders) → HoldsFilters l v config.filtering f → AreEdgesOf l.profile (report_samples l.profile f config column) c.sums.names (kept_flags (length c.sums.names) t.ranked.order) edges) where
  pub trimmed_of : AreEdgesLinked t.graph → HasNodes c.sums t.graph
      → live_edges t.graph ≡ filter (is_heavy_edge c.total config.presentation.edgefraction.billionths) edges
      → t.dropped_edges ≡ length (filter (is_light_edge c.total config.presentation.edgefraction.billionths) edges)
      → IsTrimmedOf l v config column limit c t
  trimmed_of linked nodes live cut = record {
    ranked = ranked;
    linked = linked;
    nodes = nodes;
    edges = λ f h a b in_a in_b.
        ap (edges_between a b) live
        ∙ heavy_between l.profile (report_samples l.profile f config column) c.sums.names (counted.sums_are f h).once t.ranked.order ranked.below ranked.once edges (are f h) c.total config.presentation.edgefraction.billionths a b in_a in_b
        ∙ (λ i. cond (has_heavy_edge key_cmp (λ k. has key_cmp k (ranked.keys f h i)) (report_samples l.profile f config column) (counted.total_is f h i) config.presentation.edgefraction.billionths (written_key l.profile c.sums.names a) (written_key l.profile c.sums.names b))
        (record { from = a; to = b; value = edge_sum key_cmp (λ k. has key_cmp k (ranked.keys f h i)) (report_samples l.profile f config column) (written_key l.profile c.sums.names a) (written_key l.profile c.sums.names b) } ∷ []) []);
    dropped_edges = λ f h.
        cut
        ∙ light_count_is l.profile (report_samples l.profile f config column) c.sums.names (counted.sums_are f h).once t.ranked.order ranked.below ranked.once edges (are f h) c.total config.presentation.edgefraction.billionths
        ∙ (λ i. light_edge_count key_cmp (ranked.keys f h i) (report_samples l.profile f config column) (counted.total_is f h i) config.presentation.edgefraction.billionths);
  }
