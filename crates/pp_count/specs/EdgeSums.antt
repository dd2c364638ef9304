-- The edges of a report: sums over the plain list of samples, once for each pair of keys.
use Rattle.std.specs.Prelude.{◌≡◌, ℕ, ◌<◌, ◌==◌, ℤ, Bool, false, not, ◌&&◌, ◌||◌, List, [], ◌∷◌, length, map, Option, All, if◌then◌else◌}
use Rattle.std.specs.List.{filter, list_any, range_with_len}
use Rattle.std.specs.Ordering.{eq_by_cmp}
use Rattle.std.specs.declared.cmp.Ordering.{Ordering}
use Rattle.pp_model.specs.FrameTexts.{Written}
use Rattle.pp_model.specs.declared.profile.Profile.{Profile}
use Rattle.pp_grain.specs.declared.key.Key.{Key}
use Rattle.pp_grain.specs.Keys.{key_cmp}
use Rattle.pp_count.specs.Table.{written_key}
use Rattle.pp_count.specs.Sums.{Seen, sum_where, weighed, renamed}
use Rattle.pp_model.specs.declared.config.Config.{Config}
use Rattle.pp_model.specs.declared.loaded.Loaded.{Loaded}
use Rattle.pp_model.specs.declared.verdicts.Verdicts.{Verdicts}
use Rattle.pp_model.specs.Finders.{Finders}
use Rattle.pp_count.specs.declared.pairs.Pairing.{Pairing}
use Rattle.pp_count.specs.declared.part.KeySum.{KeySum}
use Rattle.pp_count.specs.Seeing.{HoldsFilters, seen_samples}
use Rattle.pp_count.specs.Parts.{AreKeySums, HasBelow}
use Rattle.pp_count.specs.Edges.{is_kept_key, is_marked, paired}
use Rattle.pp_count.specs.declared.edge.Edge.{Edge}

module _ {K : Type 0} (order : K → K → Ordering) where
  -- the callee stands directly under the caller, where this key stands under the first of these, leaf first
  abbrev pub stands_over : K → K → K → List K → Bool
  stands_over caller callee under [] = false
  stands_over caller callee under (k ∷ keys) =
      (eq_by_cmp order caller k && eq_by_cmp order callee under)
      || stands_over caller callee k keys

  -- the callee stands directly under the caller among these keys, leaf first
  abbrev pub has_pair : K → K → List K → Bool
  has_pair caller callee [] = false
  has_pair caller callee (k ∷ keys) = stands_over caller callee k keys

  -- the list has the edge of two different keys, after those that are not kept are left out
  abbrev pub has_edge : (K → Bool) → K → K → List K → Bool
  has_edge kept caller callee keys =
      not (eq_by_cmp order caller callee) && has_pair caller callee (filter kept keys)

  -- the pair occurs in one of the samples
  abbrev pub edge_occurs : (K → Bool) → List (Seen K) → K → K → Bool
  edge_occurs kept samples caller callee =
      list_any (λ s. has_edge kept caller callee s.keys) samples

  -- the sum over the samples in which the pair occurs, each sample once
  abbrev pub edge_sum : (K → Bool) → List (Seen K) → K → K → ℤ
  edge_sum kept samples caller callee = sum_where (has_edge kept caller callee) samples

-- the numbers of the names that are kept
abbrev pub kept_numbers : List Bool → ℕ → List ℕ
kept_numbers keep names = filter (is_kept_key keep) (range_with_len 0 names)

-- the key is that of a name that is kept
abbrev pub is_kept_name : Profile → List Key → List Bool → Written → Bool
is_kept_name p names keep k =
    list_any (λ n. eq_by_cmp key_cmp k (written_key p names n)) (kept_numbers keep (length names))

-- the edges between two names
abbrev pub edges_between : ℕ → ℕ → List Edge → List Edge
edges_between caller callee edges = filter (λ e. e.from == caller && e.to == callee) edges

-- The edges are those of these samples over the names that are kept: each pair that
-- occurs has one, and no other has any.
pub record AreEdgesOf (p : Profile) (samples : List (Seen Written)) (names : List Key)
    (keep : List Bool) (edges : List Edge) : Type 0 where
  pub within : All (λ e. (e.from < length names) × (e.to < length names)) edges
  pub each : (a b : ℕ) → a < length names → b < length names
      → edges_between a b edges
      ≡ (if edge_occurs key_cmp (is_kept_name p names keep) samples (written_key p names a)
      (written_key p names b)
      then record {
        from = a;
        to = b;
        value = edge_sum key_cmp (is_kept_name p names keep) samples (written_key p names a) (written_key p names b);
      } ∷ []
      else [])

-- The edges are those of these samples over the names that are kept, of which an end is marked: each pair that occurs
-- has one, and no other has any.
pub record AreEdgesAbout (p : Profile) (samples : List (Seen Written)) (names : List Key)
    (keep marked : List Bool) (edges : List Edge) : Type 0 where
  pub within : All (λ e. (e.from < length names) × (e.to < length names)) edges
  pub each : (a b : ℕ) → a < length names → b < length names
      → edges_between a b edges
      ≡ (if (is_marked marked a || is_marked marked b)
      && edge_occurs key_cmp (is_kept_name p names keep) samples (written_key p names a)
      (written_key p names b)
      then record {
        from = a;
        to = b;
        value = edge_sum key_cmp (is_kept_name p names keep) samples (written_key p names a) (written_key p names b);
      } ∷ []
      else [])

-- The sums of pairs by their numbers, over the keys that have a place. No public clause cites it.
pub record HasPairSums (l : Loaded) (v : Verdicts) (config : Config) (column : Option ℕ)
    (names : List Key) (over : Pairing) (sums : List KeySum) : Type 0 where
  pub seen : List (Seen ℕ)
  pub below : All (HasBelow (length names)) seen
  pub are : (f : Finders) → HoldsFilters l v config.filtering f
      → map (renamed (written_key l.profile names)) seen
      ≡ seen_samples l.profile f config column l.profile.sample
  pub listed : AreKeySums (weighed (map (paired over) seen)) sums
