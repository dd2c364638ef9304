-- The places of rows by the numbers of names. No public clause cites this file.
use Rattle.std.specs.Prelude.{◌≡◌, ℕ, ℤ, ◌<◌, List, length, slice_index_or, Option, Some, None, option_map}
use Rattle.std.specs.Option.{option_and_then}
use Rattle.pp_count.specs.declared.edge.Edge.{Edge}
use Rattle.pp_library.specs.declared.edging.FigureEdge.{FigureEdge}

-- For each of the names the place of its number among the first n of the order, if it stands there.
pub record HasRowPlaces (names : ℕ) (order : List ℕ) (n : ℕ) (places : List (Option ℕ)) : Type 0 where
  pub long : length places ≡ names
  pub found : (i : ℕ) → i < n → slice_index_or places (slice_index_or order i 0) None ≡ Some i
  pub only : (k q : ℕ) → slice_index_or places k None ≡ Some q → (q < n) × (slice_index_or order q 0 ≡ k)

-- the edge between two rows, where there are both
abbrev pub placed_between : ℤ → Option ℕ → Option ℕ → Option FigureEdge
placed_between sum caller callee =
    option_and_then (λ a. option_map (λ b. record { caller = a; callee = b; sum = sum }) callee) caller

-- the edge of two names between their rows, where both have one
abbrev pub placed_edge : List (Option ℕ) → Edge → Option FigureEdge
placed_edge places e =
    placed_between e.value (slice_index_or places e.from None) (slice_index_or places e.to None)
