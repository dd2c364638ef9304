-- Calls that are counted, some of which fail by their number.
use Rattle.std.specs.Prelude.{ℕ, ◌+◌, ◌==◌, Bool, List, if◌then◌else◌}
use Rattle.std.specs.List.{list_any}
use Rattle.pp_base.specs.Capped.{capped}

-- the numbers of the calls that fail, from 0, the number of the next call, and how many have failed
pub record Calls : Type 0 where
  pub fails : List ℕ
  pub number : ℕ
  pub faults : ℕ

-- the next call fails
abbrev pub fails_next : Calls → Bool
fails_next calls = list_any (λ n. n == calls.number) calls.fails

-- one more, in a counter of 64 bits that stops at its last value
abbrev pub one_more : ℕ → ℕ
one_more n = capped (n + 1)

-- after one more call
abbrev pub after_call : Calls → Calls
after_call calls = record {
  fails = calls.fails;
  number = one_more calls.number;
  faults = (if fails_next calls then one_more calls.faults else calls.faults);
}
