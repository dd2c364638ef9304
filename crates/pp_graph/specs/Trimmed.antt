-- What `rank` and `trim` give: the keys that a report shows, as numbers of names, and the graph of its edges.
use Rattle.std.specs.Prelude.{◌≡◌, ℕ, ◌<◌, ◌^◌, nat_abs, ℤ, pos, ◌+ℤ◌, List, [], ◌∷◌, length, map, slice_get, slice_index_or, All, AllPairs, ◌≢◌, Option, Some, if◌then◌else◌}
use Rattle.std.specs.List.{sum_by}
use Rattle.pp_model.specs.declared.config.Config.{Config}
use Rattle.pp_model.specs.declared.loaded.Loaded.{Loaded}
use Rattle.pp_model.specs.declared.verdicts.Verdicts.{Verdicts}
use Rattle.pp_model.specs.declared.profile.Profile.{Profile}
use Rattle.pp_model.specs.Finders.{Finders}
use Rattle.pp_model.specs.FrameTexts.{Written}
use Rattle.pp_grain.specs.declared.key.Key.{Key}
use Rattle.pp_count.specs.declared.counted.Counted.{Counted}
use Rattle.pp_count.specs.declared.edge.Edge.{Edge}
use Rattle.pp_count.specs.declared.sums.Sums.{Sums}
use Rattle.pp_count.specs.Seeing.{HoldsFilters}
use Rattle.pp_count.specs.EdgeSums.{edges_between}
use Rattle.pp_count.specs.Table.{written_key}
use Rattle.pp_graph.specs.declared.node.Node.{Node}
use Rattle.pp_graph.specs.declared.ranking.Ranked.{Ranked}
use Rattle.pp_graph.specs.declared.trimming.Trimmed.{Trimmed}
use Rattle.pp_graph.specs.Figures.{figures}
use Rattle.pp_graph.specs.Links.{EdgeLinks, AreEdgesLinked, live_edges}
use Rattle.pp_graph.specs.Trim.{candidate_keys, first_report_keys, report_keys, is_report_key, light_nodes, light_edges, is_heavy_pair}

-- the sum of numbers
abbrev pub int_sum : List ℤ → ℤ
int_sum [] = pos 0
int_sum (x ∷ xs) = x +ℤ int_sum xs

-- what the numbers of names stand for
abbrev pub written_order : Profile → List Key → List ℕ → List Written
written_order p names order = map (written_key p names) order

-- The ranking is that of the report: the numbers of the names that it shows, in report order, and its counts.
pub record IsRankedOf (l : Loaded) (v : Verdicts) (config : Config) (column : Option ℕ) (limit : ℕ)
    (c : Counted) (t : Ranked) : Type 0 where
  pub below : All (λ n. n < length c.sums.names) t.order
  pub once : AllPairs (λ a b. a ≢ b) t.order
  pub small : sum_by (λ n. nat_abs (slice_index_or c.sums.flat n (pos 0))) t.order < 2 ^ 63
  pub keys : (f : Finders) → HoldsFilters l v config.filtering f
      → written_order l.profile c.sums.names t.order ≡ report_keys l.profile f config column limit
  pub shown_flat : (f : Finders) → HoldsFilters l v config.filtering f
      → t.shown_flat
      ≡ int_sum (map (figures l.profile f config column).flat_of
      (report_keys l.profile f config column limit))
  pub dropped_nodes : (f : Finders) → HoldsFilters l v config.filtering f
      → t.dropped_nodes ≡ light_nodes l.profile f config column
  pub candidates : (f : Finders) → HoldsFilters l v config.filtering f
      → t.candidates ≡ length (candidate_keys l.profile f config column)

-- The ranking is that of all keys that occur, however light: the numbers of the first of their names, in report order,
-- where 0 is no limit.
pub record IsWholeRanking (l : Loaded) (v : Verdicts) (config : Config) (column : Option ℕ) (limit : ℕ)
    (c : Counted) (t : Ranked) : Type 0 where
  pub below : All (λ n. n < length c.sums.names) t.order
  pub once : AllPairs (λ a b. a ≢ b) t.order
  pub small : sum_by (λ n. nat_abs (slice_index_or c.sums.flat n (pos 0))) t.order < 2 ^ 63
  pub keys : (f : Finders) → HoldsFilters l v config.filtering f
      → written_order l.profile c.sums.names t.order ≡ first_report_keys l.profile f config column limit
  pub shown_flat : (f : Finders) → HoldsFilters l v config.filtering f
      → t.shown_flat
      ≡ int_sum (map (figures l.profile f config column).flat_of
      (first_report_keys l.profile f config column limit))

-- the node of a name's number, with the sums of the name
abbrev pub IsNodeOf : Sums → ℕ → Node → Type 0
IsNodeOf sums n node =
    (node.name ≡ n) × (slice_get sums.flat n ≡ Some node.flat)
    × (slice_get sums.cum n ≡ Some node.cum)

-- the edge that the report shows between two keys, as a list of none or one between these numbers
abbrev pub shown_edges : Profile → Finders → Config → Option ℕ → ℕ → List Key → ℕ → ℕ → List Edge
shown_edges p f config column limit names a b =
    let g = figures p f config column in
    let kept = is_report_key p f config column limit in
    let caller = written_key p names a in
    let callee = written_key p names b in
    if is_heavy_pair g kept config.presentation.edgefraction.billionths caller callee
    then record { from = a; to = b; value = g.sum_of_pair kept caller callee } ∷ []
    else []

-- The graph has a node for each name, with its sums.
pub record HasNodes (sums : Sums) (g : EdgeLinks) : Type 0 where
  pub count : length g.nodes ≡ length sums.names
  pub each : (n : ℕ) (node : Node) → slice_get g.nodes n ≡ Some node → IsNodeOf sums n node

-- The trimmed graph is that of the report: the ranking, and the edges that it shows between the keys that it shows,
-- each once and no others.
pub record IsTrimmedOf (l : Loaded) (v : Verdicts) (config : Config) (column : Option ℕ) (limit : ℕ)
    (c : Counted) (t : Trimmed) : Type 0 where
  pub ranked : IsRankedOf l v config column limit c t.ranked
  pub linked : AreEdgesLinked t.graph
  pub nodes : HasNodes c.sums t.graph
  pub edges : (f : Finders) → HoldsFilters l v config.filtering f
      → (a b : ℕ) → a < length c.sums.names → b < length c.sums.names
      → edges_between a b (live_edges t.graph)
      ≡ shown_edges l.profile f config column limit c.sums.names a b
  pub dropped_edges : (f : Finders) → HoldsFilters l v config.filtering f
      → t.dropped_edges ≡ light_edges l.profile f config column limit
