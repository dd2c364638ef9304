-- Which keys and edges are heavy, worked out of samples one after the other, of keys of any type. No public clause cites
-- this file.
use Rattle.std.specs.Prelude.{ℕ, Bool, not, ◌&&◌, List, length}
use Rattle.std.specs.List.{filter, sum_by}
use Rattle.std.specs.Ordering.{eq_by_cmp}
use Rattle.std.specs.Set.{distinct_count}
use Rattle.std.specs.declared.cmp.Ordering.{Ordering}
use Rattle.pp_model.specs.declared.presentation.Sort.{Sort}
use Rattle.pp_model.specs.FrameTexts.{Written}
use Rattle.pp_grain.specs.Keys.{key_cmp}
use Rattle.pp_grain.specs.Naming.{name_text}
use Rattle.pp_count.specs.Sums.{Seen, all_keys, has, cum, flat}
use Rattle.pp_count.specs.EdgeSums.{edge_occurs, edge_sum}
use Rattle.pp_count.specs.Ranks.{is_heavy, each_once}
use Rattle.pp_graph.specs.KeyRows.{KeyRow}
use Rattle.pp_graph.specs.Trim.{sums_order}

module _ {K : Type 0} (order : K → K → Ordering) where
  -- report order over the sums of these samples
  abbrev pub report_order : Sort → List (Seen K) → K → K → Ordering
  report_order sort samples = sums_order sort (flat order samples) (cum order samples) order

  -- the key is heavy by its cum
  abbrev pub is_heavy_cum : ℕ → ℕ → List (Seen K) → K → Bool
  is_heavy_cum total billionths samples k = is_heavy total billionths (cum order samples k)

  -- the keys that occur and are heavy, in report order
  abbrev pub heavy_listed : Sort → ℕ → ℕ → List (Seen K) → List K
  heavy_listed sort total billionths samples =
      each_once (report_order sort samples)
      (filter (is_heavy_cum total billionths samples) (all_keys samples))

  -- how many keys occur and are not heavy
  abbrev pub light_count : ℕ → ℕ → List (Seen K) → ℕ
  light_count total billionths samples =
      distinct_count (eq_by_cmp order)
      (filter (λ k. not (is_heavy_cum total billionths samples k)) (all_keys samples))

  -- the pair occurs over the keys that are kept, and its edge is heavy
  abbrev pub has_heavy_edge : (K → Bool) → List (Seen K) → ℕ → ℕ → K → K → Bool
  has_heavy_edge kept samples total billionths caller callee =
      edge_occurs order kept samples caller callee
      && is_heavy total billionths (edge_sum order kept samples caller callee)

  -- the pair occurs over the keys that are kept, and its edge is not heavy
  abbrev pub has_light_edge : (K → Bool) → List (Seen K) → ℕ → ℕ → K → K → Bool
  has_light_edge kept samples total billionths caller callee =
      edge_occurs order kept samples caller callee
      && not (is_heavy total billionths (edge_sum order kept samples caller callee))

  -- how many pairs of these keys occur over them and have an edge that is not heavy
  abbrev pub light_edge_count : List K → List (Seen K) → ℕ → ℕ → ℕ
  light_edge_count keys samples total billionths =
      sum_by (λ caller. length (filter
      (has_light_edge (λ k. has order k keys) samples total billionths caller) keys)) keys

-- the row of a key over these samples
abbrev pub seen_row : List (Seen Written) → Written → KeyRow
seen_row samples k = record {
  flat = flat key_cmp samples k;
  cum = cum key_cmp samples k;
  name = name_text k;
}
