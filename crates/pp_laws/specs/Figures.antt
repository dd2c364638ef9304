-- Words of the laws: what a report's samples come to as a whole.
use Rattle.std.specs.Prelude.{ℤ, pos, ◌≤ℤ◌, Bool, true, not, List}
use Rattle.std.specs.List.{AllByRecursion}
use Rattle.pp_stack.specs.Filters.{has_no_items}
use Rattle.pp_count.specs.Sums.{Seen, sum_where}

-- some frame of the sample counts
abbrev pub has_frames : {K : Type 0} → List K → Bool
has_frames keys = not (has_no_items keys)

-- the values of all these samples, added up
abbrev pub whole : {K : Type 0} → List (Seen K) → ℤ
whole samples = sum_where (λ _. true) samples

-- no selected value is below 0
abbrev pub NoneNegative : {K : Type 0} → List (Seen K) → Type 0
NoneNegative samples = AllByRecursion (λ s. pos 0 ≤ℤ s.value) samples
