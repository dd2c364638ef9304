-- The rows that are ranked. No public clause cites this file.
use Rattle.std.specs.Prelude.{◌≡◌, ℕ, ◌<◌, Bool, not, ℤ, pos, nat_abs, List, length, map, slice_index_or, All}
use Rattle.std.specs.List.{filter, range_with_len}
use Rattle.std.specs.Ordering.{nat_cmp, ordering_then, is_lt}
use Rattle.std.specs.List.Sorted.{IsPermutation, IsSortedBy}
use Rattle.std.specs.declared.cmp.Ordering.{Ordering}
use Rattle.pp_model.specs.declared.presentation.Sort.{Sort}
use Rattle.pp_model.specs.declared.presentation.Sort.TheVariants as sorts
use Rattle.pp_model.specs.declared.profile.Profile.{Profile}
use Rattle.pp_model.specs.FrameTexts.{Written}
use Rattle.pp_grain.specs.Keys.{key_cmp}
use Rattle.pp_grain.specs.Told.{written_texts}
use Rattle.pp_count.specs.declared.sums.Sums.{Sums}
use Rattle.pp_count.specs.Table.{written_key}
use Rattle.pp_count.specs.Ranks.{is_heavy}
use Rattle.pp_graph.specs.declared.heavy.RankedRow.{RankedRow}

-- what the row's key stands for
abbrev pub row_key : RankedRow → Written
row_key row = written_texts row.texts

-- the greater number first
abbrev pub larger_first : ℕ → ℕ → Ordering
larger_first a b = nat_cmp b a

-- report order of rows
abbrev pub row_cmp : RankedRow → RankedRow → Ordering
row_cmp a b =
    ordering_then (ordering_then (larger_first a.major b.major) (larger_first a.minor b.minor))
    (key_cmp (row_key a) (row_key b))

-- the item of the list at the place, 0 where there is none
abbrev pub sum_of_name : List ℤ → ℕ → ℤ
sum_of_name sums n = slice_index_or sums n (pos 0)

-- the sum that comes first in report order
abbrev pub major : Sort → Sums → ℕ → ℕ
major sorts.Flat sums n = nat_abs (sum_of_name sums.flat n)
major sorts.Cum sums n = nat_abs (sum_of_name sums.cum n)

-- the sum that comes second
abbrev pub minor : Sort → Sums → ℕ → ℕ
minor sorts.Flat sums n = nat_abs (sum_of_name sums.cum n)
minor sorts.Cum sums n = nat_abs (sum_of_name sums.flat n)

-- the row is that of its number
pub record IsRankedRow (p : Profile) (sort : Sort) (sums : Sums) (row : RankedRow) : Type 0 where
  pub below : row.number < length sums.names
  pub key : row_key row ≡ written_key p sums.names row.number
  pub major : row.major ≡ major sort sums row.number
  pub minor : row.minor ≡ minor sort sums row.number

-- the number's cum is at least this fraction of the total
abbrev pub is_heavy_number : ℕ → ℕ → Sums → ℕ → Bool
is_heavy_number total billionths sums n = is_heavy total billionths (sum_of_name sums.cum n)

-- the numbers below n that are heavy
abbrev pub heavy_numbers : ℕ → ℕ → Sums → ℕ → List ℕ
heavy_numbers total billionths sums n =
    filter (is_heavy_number total billionths sums) (range_with_len 0 n)

-- those that are not
abbrev pub light_numbers : ℕ → ℕ → Sums → ℕ → List ℕ
light_numbers total billionths sums n =
    filter (λ k. not (is_heavy_number total billionths sums k)) (range_with_len 0 n)

-- The rows are those of the heavy numbers below n, in order, and `light` of them are light.
pub record Collected (p : Profile) (sort : Sort) (sums : Sums) (total billionths n : ℕ)
    (rows : List RankedRow) (light : ℕ) : Type 0 where
  pub rows_are : All (IsRankedRow p sort sums) rows
  pub numbers : map (λ row. row.number) rows ≡ heavy_numbers total billionths sums n
  pub too_light : light ≡ length (light_numbers total billionths sums n)

-- The rows are those of the heavy numbers, in report order, and `light` numbers are light.
pub record AreRanked (p : Profile) (sort : Sort) (sums : Sums) (total billionths : ℕ)
    (rows : List RankedRow) (light : ℕ) : Type 0 where
  pub sorted : IsSortedBy (λ a b. is_lt (row_cmp a b)) rows
  pub rows_are : All (IsRankedRow p sort sums) rows
  pub numbers : IsPermutation (heavy_numbers total billionths sums (length sums.names))
      (map (λ row. row.number) rows)
  pub too_light : light ≡ length (light_numbers total billionths sums (length sums.names))
