-- Where ids stand in the order in which they were met.
use Rattle.std.specs.Prelude.{◌≡◌, ℕ, ◌+◌, ◌<◌, ◌==◌, List, true, slice_index_or, if◌then◌else◌}
use Rattle.std.specs.List.{list_any, position_or_len}

-- The place of the id among these plus 1, which is past them where it isn't there. 0 stays.
abbrev pub place_id : List ℕ → ℕ → ℕ
place_id ids id = if id == 0 then 0 else position_or_len (λ other. id == other) ids + 1

-- Each number above 0 in the table is the place of its index among these ids, plus 1. No public clause cites this.
abbrev pub HoldsPlaces : List ℕ → List ℕ → Type 0
HoldsPlaces ids places = (id : ℕ) → 0 < slice_index_or places id 0
    → (list_any (λ other. id == other) ids ≡ true) × (place_id ids id ≡ slice_index_or places id 0)
