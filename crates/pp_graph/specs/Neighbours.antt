-- The callers and callees of a key, as a report lists them.
use Rattle.std.specs.Prelude.{ℕ, ℤ, Bool, List, map}
use Rattle.std.specs.List.{filter}
use Rattle.std.specs.Ordering.{then_cmp}
use Rattle.std.specs.declared.cmp.Ordering.{Ordering}
use Rattle.pp_model.specs.FrameTexts.{Written}
use Rattle.pp_grain.specs.Keys.{key_cmp}
use Rattle.pp_count.specs.Ranks.{by_size, each_once}
use Rattle.pp_graph.specs.Figures.{Figures}
use Rattle.pp_graph.specs.Trim.{is_heavy_pair}

-- The other end of an edge, and the edge's value.
pub record Neighbour (K : Type 0) : Type 0 where
  pub key : K
  pub value : ℤ

-- the keys that pass a test, each once and each with a value, by absolute value falling, then by the keys' order
abbrev pub neighbour_list : {K : Type 0} → (K → K → Ordering) → (K → Bool) → (K → ℤ) → List K
    → List (Neighbour K)
neighbour_list order test value keys =
    map (λ k. record { key = k; value = value k })
    (each_once (then_cmp (by_size value) order) (filter test keys))

module _ (g : Figures) where
  -- The callers of a key over the keys that are kept, by edges of at least this fraction of the total.
  abbrev pub callers_of : (Written → Bool) → ℕ → Written → List (Neighbour Written)
  callers_of kept billionths callee =
      neighbour_list key_cmp (λ caller. is_heavy_pair g kept billionths caller callee)
      (λ caller. g.sum_of_pair kept caller callee) g.keys

  -- The callees of a key in the same way.
  abbrev pub callees_of : (Written → Bool) → ℕ → Written → List (Neighbour Written)
  callees_of kept billionths caller =
      neighbour_list key_cmp (λ callee. is_heavy_pair g kept billionths caller callee)
      (λ callee. g.sum_of_pair kept caller callee) g.keys
