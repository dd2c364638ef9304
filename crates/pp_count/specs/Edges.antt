-- Edges between keys.
use Rattle.std.specs.Prelude.{◌≡◌, ℕ, ◌+◌, ◌*◌, ◌/◌, ◌%◌, ◌<◌, ◌^◌, ◌==◌, Bool, false, ◌||◌, List, [], ◌∷◌, ◌++◌, length, slice_index_or, Option, Some, None, if◌then◌else◌}
use Rattle.std.specs.List.{filter, filter_map}
use Rattle.std.specs.Option.{option_map_or}
use Rattle.pp_count.specs.Sums.{Seen}
use Rattle.pp_count.specs.declared.part.KeySum.{KeySum}
use Rattle.pp_count.specs.declared.edge.Edge.{Edge}
use Rattle.pp_count.specs.declared.pairs.Pairing.{Pairing}

-- the key is one of those kept
abbrev pub is_kept_key : List Bool → ℕ → Bool
is_kept_key keep k = slice_index_or keep k false

-- the number of the pair of a caller and a callee, where there are `names` places
abbrev pub pair_number : ℕ → ℕ → ℕ → ℕ
pair_number names caller callee = caller * names + callee

-- the pair, unless both are the same key
abbrev pub pair_if : ℕ → ℕ → ℕ → List ℕ
pair_if names caller callee = if caller == callee then [] else pair_number names caller callee ∷ []

-- the pair of a caller and a callee, where there are both
abbrev pub pair_between : ℕ → Option ℕ → Option ℕ → List ℕ
pair_between names caller callee =
    option_map_or (λ a. option_map_or (pair_if names a) callee []) caller []

-- the pairs of keys of which one stands directly above the other, leaf first, where this
-- key stands under the first of them
abbrev pub pairs_over : ℕ → Option ℕ → List ℕ → List ℕ
pairs_over names under [] = []
pairs_over names None (a ∷ keys) = pairs_over names (Some a) keys
pairs_over names (Some b) (a ∷ keys) = pair_if names a b ++ pairs_over names (Some a) keys

-- the key's place among those that pairs are counted over, none where it isn't one of them
abbrev pub pair_place : Pairing → ℕ → Option ℕ
pair_place over k = slice_index_or over.place k None

-- the place, or the name, is marked
abbrev pub is_marked : List Bool → ℕ → Bool
is_marked marked n = slice_index_or marked n false

-- an end of the pair of this number is marked
abbrev pub has_mark : List Bool → ℕ → Bool
has_mark marked pair =
    is_marked marked (pair / length marked) || is_marked marked (pair % length marked)

-- The pairs of a sample's keys by their places, after those without a place are left out: those with a marked end.
abbrev pub pairs_of : Pairing → List ℕ → List ℕ
pairs_of over keys =
    filter (has_mark over.marked)
    (pairs_over (length over.marked) None (filter_map (pair_place over) keys))

-- what is counted of a sample's keys: the keys, or their pairs
abbrev pub counted_keys : Option Pairing → List ℕ → List ℕ
counted_keys None keys = keys
counted_keys (Some over) keys = pairs_of over keys

-- the sample with its pairs in the place of its keys
abbrev pub paired : Pairing → Seen ℕ → Seen ℕ
paired over s = record { value = s.value; keys = pairs_of over s.keys }

-- no number stands twice
abbrev pub AreOnce : List ℕ → Type 0
AreOnce keys =
    (i j : ℕ) → i < length keys → j < length keys
    → slice_index_or keys i 0 ≡ slice_index_or keys j 0 → i ≡ j

-- The places are those of these keys: each has its own, and no other key has one.
pub record ArePairPlaces (keys : List ℕ) (place : List (Option ℕ)) : Type 0 where
  pub found : (q : ℕ) → q < length keys → slice_index_or place (slice_index_or keys q 0) None ≡ Some q
  pub only : (k q : ℕ) → slice_index_or place k None ≡ Some q
      → (q < length keys) × (slice_index_or keys q 0 ≡ k)

-- The numbers of pairs are few, and each place has its mark.
pub record HasPairPlaces (over : Pairing) : Type 0 where
  pub few : length over.marked < 2 ^ 32
  pub below : (k q : ℕ) → pair_place over k ≡ Some q → q < length over.marked

-- The edge of a pair's sum, where the places are those of names with these numbers.
abbrev pub edge_of_sum : List ℕ → KeySum → Edge
edge_of_sum kept e = record {
  from = slice_index_or kept (e.key / length kept) 0;
  to = slice_index_or kept (e.key % length kept) 0;
  value = e.cum;
}
