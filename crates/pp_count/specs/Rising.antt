-- Numbers that rise.
use Rattle.std.specs.Prelude.{ℕ, ◌<◌, ◌≤◌, List, All, AllPairs}

-- The numbers rise, none of them is below the first bound, and all of them are below the second.
pub record AreRisingBetween (low high : ℕ) (numbers : List ℕ) : Type 0 where
  pub from : All (λ n. low ≤ n) numbers
  pub below : All (λ n. n < high) numbers
  pub order : AllPairs (λ a b. a < b) numbers
