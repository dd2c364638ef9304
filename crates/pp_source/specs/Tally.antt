-- What is kept of each number while samples are added up. No public clause cites it.
use Rattle.std.specs.Prelude.{◌≡◌, ℕ, ◌+◌, ◌<◌, ◌^◌, nat_lt, nat_abs, ℤ, List, map, slice_index_or}
use Rattle.std.specs.declared.cmp.Ordering.{Ordering}
use Rattle.pp_count.specs.declared.tallies.Tallies.{Tallies}
use Rattle.pp_count.specs.declared.tally.Tally.{Tally}
use Rattle.pp_count.specs.Sums.{Seen, cum, flat, occurs}
use Rattle.pp_count.specs.Tally.{tally_at, with_seen}
use Rattle.pp_source.specs.declared.amounts.Amounts.{Amounts}

-- A sample of this value can be added at this turn.
pub record IsReadyFor (value : ℤ) (turn : ℕ) (tallies : Tallies) : Type 0 where
  pub earlier : (k : ℕ) → (tally_at tallies k).last < turn
  pub cums : (k : ℕ) → nat_abs (tally_at tallies k).cum + nat_abs value < 2 ^ 63
  pub flats : (k : ℕ) → nat_abs (tally_at tallies k).flat + nat_abs value < 2 ^ 63

-- the number that stands for another one
abbrev pub new_number : List ℕ → ℕ → ℕ
new_number numbers key = slice_index_or numbers key 0

-- A sample with these keys is added to the tallies of their numbers.
abbrev pub AddsKeys : List ℕ → ℤ → ℕ → List ℕ → Tallies → Tallies → Type 0
AddsKeys numbers value turn keys old new =
    (k : ℕ) → tally_at new k ≡ with_seen value turn (map (new_number numbers) keys) k (tally_at old k)

-- the sums of a tally, as a report prints them
abbrev pub amounts_of_tally : Tally → Amounts
amounts_of_tally t = record { flat = t.flat; cum = t.cum }

-- The tally is that of the key over these samples.
pub record IsTallyBy {K : Type 0} (order : K → K → Ordering) (samples : List (Seen K)) (k : K) (t : Tally) : Type 0 where
  pub flat : t.flat ≡ flat order samples k
  pub cum : t.cum ≡ cum order samples k
  pub occurs : nat_lt 0 t.last ≡ occurs order samples k
