-- Which sums are shown, and the order of what is ranked by them.
use Rattle.std.specs.Prelude.{ℕ, ◌*◌, ℤ, nat_abs, Bool, List, map, nat_le}
use Rattle.std.specs.Ordering.{nat_cmp, on, flip_args}
use Rattle.std.specs.declared.cmp.Ordering.{Ordering}
use Rattle.std.specs.FinMap as finite

-- the sum's absolute value is at least this fraction, in billionths, of the total
abbrev pub is_heavy : ℕ → ℕ → ℤ → Bool
is_heavy total billionths sum = nat_le (total * billionths) (nat_abs sum * 1000000000)

-- the greater absolute value first
abbrev pub by_size : {K : Type 0} → (K → ℤ) → K → K → Ordering
by_size value = flip_args (on (λ k. nat_abs (value k)) nat_cmp)

-- an item of a set, with nothing beside it
abbrev pub set_entry : {K : Type 0} → K → K × Unit {0}
set_entry k = (k, tt)

-- the keys as a set, each once, in an order
abbrev pub each_once : {K : Type 0} → (K → K → Ordering) → List K → List K
each_once order keys = finite.keys (finite.from_entries {R = order} (map set_entry keys))
