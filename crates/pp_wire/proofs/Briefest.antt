-- No varint that reads as a number is shorter than the shortest one.
use Rattle.std.proofs.Common.{◌≡◌, ℕ, zero, suc, ◌+◌, ◌-◌, ◌*◌, ◌/◌, ◌%◌, ◌^◌, ◌<◌, ◌≤◌, List, [], ◌∷◌, length, Ok, Err, cond, ltb, refl, ap, inl, inr, arith}
use Rattle.std.specs.List.{AllByRecursion}
use Rattle.std.proofs.Math.Nat.{pow-suc}
use Rattle.std.proofs.lemmas.Nat.{div_below}
use Rattle.std.proofs.lemmas.Bool.{cases_lt, lt-ltb, le-ltb}
use Rattle.pp_wire.specs.declared.fault.WireKind.{WireKind}
use Rattle.pp_wire.specs.Reading.{Read}
use Rattle.pp_wire.specs.Varint.{groups, varint}
use Rattle.pp_wire.specs.Spelling.{shortest, varint_bytes}
use Rattle.pp_wire.proofs.Shortest.{last_group, next_group, all_groups}
use Rattle.pp_base.specs.Results.{◌>>=◌}

-- what was read took one group and `more` further ones, and its number lies below what these can spell
pub record Took (bytes : List ℕ) (n : ℕ) (rest : List ℕ) : Type 0 where
  pub more : ℕ
  pub long : length bytes ≡ suc more + length rest
  pub below : n < 128 ^ suc more

abbrev AllTook : List ℕ → Read ℕ WireKind → Type 0
AllTook bytes (Ok x) = Took bytes x.0 x.1
AllTook bytes (Err e) = Unit {0}

took_last : (b : ℕ) (bytes : List ℕ) → b < 128 → Took (b ∷ bytes) b bytes
took_last b bytes low = record { more = 0; long = omega arith; below = low }

took_more : (b : ℕ) (bytes : List ℕ) (read : Read ℕ WireKind) → b < 256 → AllTook bytes read
    → AllTook (b ∷ bytes) (read >>= λ high. Ok ((b - 128) + 128 * high.0, high.1))
took_more b bytes (Ok x) byte took =
    let wide : 128 ^ suc (suc took.more) ≡ 128 ^ suc took.more * 128 = pow-suc 128 (suc took.more) in record {
      more = suc took.more;
      long = omega (arith, took.long);
      below = omega (arith, took.below, wide);
    }
took_more b bytes (Err e) byte took = tt

took_case : (b : ℕ) (bytes : List ℕ) (read : Read ℕ WireKind) → b < 256 → AllTook bytes read
    → AllTook (b ∷ bytes) (cond (ltb b 128) (Ok (b, bytes)) (read >>= λ high. Ok ((b - 128) + 128 * high.0, high.1)))
took_case b bytes read byte took =
    elim (cases_lt b 128) [
      | inl low ↦ let test = lt-ltb b 128 low in rw test (took_last b bytes low)
      | inr high ↦ let test = le-ltb b 128 high in rw test (took_more b bytes read byte took)
    ]

all_took : (k : ℕ) (bytes : List ℕ) → AllByRecursion (λ b. b < 256) bytes → AllTook bytes (groups k bytes)
unfolding groups
all_took zero bytes are = tt
all_took (suc k) [] are = tt
all_took (suc k) (b ∷ bytes) are = took_case b bytes (groups k bytes) are.0 (all_took k bytes are.1)

-- a number that k groups can spell has no longer shortest varint
one_longer : (more k n : ℕ) → ((j m : ℕ) → m < 128 ^ suc j → length (shortest more m) ≤ suc j) → 128 ≤ n → n < 128 ^ suc k → suc (length (shortest more (n / 128))) ≤ suc k
one_longer more zero n fewer high below = absurd (omega arith)
one_longer more (suc k) n fewer high below =
    let less = div_below n 128 (128 ^ suc k) (omega arith) (rw (pow-suc 128 (suc k)) at below) in
    omega (arith, fewer k (n / 128) less)

pub length_shortest : (more k n : ℕ) → n < 128 ^ suc k → length (shortest more n) ≤ suc k
length_shortest zero k n below = rw (all_groups n) (omega arith)
length_shortest (suc more) k n below =
    elim (cases_lt n 128) [
      | inl low ↦ rw (last_group (suc more) n low) (omega arith)
      | inr high ↦ rw (next_group (suc more) more n refl high) (one_longer more k n (length_shortest more) high below)
    ]

abbrev counted : ℕ × List ℕ → Read ℕ WireKind
counted m = Ok (m.0 % 2 ^ 64, m.1)

-- of the 64 bits that count
cut_down : (n k : ℕ) → n < 128 ^ suc k → n % 2 ^ 64 < 128 ^ suc k
cut_down n k below = omega (arith, below)

abbrev number_of : Read ℕ WireKind → ℕ
number_of (Ok x) = x.0
number_of (Err e) = 0

abbrev rest_of : Read ℕ WireKind → List ℕ
rest_of (Ok x) = x.1
rest_of (Err e) = []

shortest_read : (bytes rest : List ℕ) (n : ℕ) (read : Read ℕ WireKind) → AllTook bytes read
    → (read >>= counted) ≡ Ok (n, rest) → length (varint_bytes n) + length rest ≤ length bytes
shortest_read bytes rest n (Ok x) took is =
    let number : x.0 % 2 ^ 64 ≡ n = ap number_of is in
    let behind : x.1 ≡ rest = ap rest_of is in
    let few = length_shortest 9 took.more (x.0 % 2 ^ 64) (cut_down x.0 took.more took.below) in
    rw (← number, ← behind) (omega (arith, few, took.long))
shortest_read bytes rest n (Err e) took is = absurd cc

pub none_is_shorter : (bytes rest : List ℕ) (n : ℕ) → AllByRecursion (λ b. b < 256) bytes → varint bytes ≡ Ok (n, rest)
    → length (varint_bytes n) + length rest ≤ length bytes
unfolding varint
none_is_shorter bytes rest n are read = shortest_read bytes rest n (groups 10 bytes) (all_took 10 bytes are) read
