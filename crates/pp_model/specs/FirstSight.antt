-- Equal items are one, in the order of first sight.
use Rattle.std.specs.Prelude.{ℕ, ◌+◌, Bool, List, [], ◌∷◌, ◌++◌, map, fold, if◌then◌else◌}
use Rattle.std.specs.List.{list_any, position_or_len}

module _ {A : Type 0} (same : A → A → Bool) where
  -- the items seen, in order of first sight, after one more
  abbrev pub seen_with : List A → A → List A
  seen_with seen x = if list_any (same x) seen then seen else seen ++ x ∷ []

  -- the items seen after these
  abbrev pub seen_after : List A → List A → List A
  seen_after seen xs = fold seen_with seen xs

  -- the items without repeats, in order of first sight
  abbrev pub distinct : List A → List A
  distinct xs = seen_after [] xs

  -- the place of the item among these, which is their number where it isn't there
  abbrev pub place_of : List A → A → ℕ
  place_of seen x = position_or_len (same x) seen

  -- the number of each item: its place among the distinct ones
  abbrev pub numbers : List A → List ℕ
  numbers xs = map (place_of (distinct xs)) xs

  -- the id of each item: its number plus 1
  abbrev pub ids : List A → List ℕ
  ids xs = map (λ number. number + 1) (numbers xs)
