-- The shortest varint, group by group.
use Rattle.std.proofs.Common.{◌≡◌, ℕ, zero, suc, ◌+◌, ◌-◌, ◌*◌, ◌/◌, ◌%◌, ◌^◌, ◌<◌, ◌≤◌, List, [], ◌∷◌, ◌++◌, length, take, refl, ap, ◌∙◌, subst, append_assoc, arith}
use Rattle.std.proofs.Math.ListN.{set}
use Rattle.std.proofs.lemmas.List.{take_more_set}
use Rattle.std.proofs.lemmas.Nat.{shr_below}
use Rattle.std.proofs.lemmas.Bool.{lt-ltb, le-ltb}
use Rattle.pp_wire.specs.Spelling.{shortest, varint_bytes}

pub last_group : (more n : ℕ) → n < 128 → shortest more n ≡ n ∷ []
unfolding shortest
last_group zero n lt = refl
last_group (suc more) n lt = let test = lt-ltb n 128 lt in rw test refl

pub next_group : (more fewer n : ℕ) → more ≡ suc fewer → 128 ≤ n → shortest more n ≡ (128 + n % 128) ∷ shortest fewer (n / 128)
unfolding shortest
next_group more fewer n one_less high = let test = le-ltb n 128 high in rw (one_less, test) refl

-- a number of one group, and of two
pub one_group : (n : ℕ) → n < 128 → varint_bytes n ≡ n ∷ []
one_group n low = last_group 9 n low

pub two_groups : (n : ℕ) → 128 ≤ n → n < 16384 → varint_bytes n ≡ (128 + n % 128) ∷ n / 128 ∷ []
two_groups n high low =
    let one_less : 9 ≡ suc 8 = omega arith in
    next_group 9 8 n one_less high ∙ ap (λ rest. (128 + n % 128) ∷ rest) (last_group 8 (n / 128) (omega (arith, low)))

pub all_groups : (n : ℕ) → shortest 0 n ≡ n ∷ []
unfolding shortest
all_groups n = refl

-- what is left behind this number of groups of a number of 64 bits is below this
abbrev pub bound : ℕ → ℕ
bound groups = 2 ^ (64 - 7 * groups)

pub smaller : (groups n : ℕ) → groups < 9 → n < bound groups → n / 128 < bound (groups + 1)
smaller groups n lt below =
    let bits : 64 - 7 * groups ≡ (64 - 7 * (groups + 1)) + 7 = omega arith in
    shr_below n (64 - 7 * (groups + 1)) 7 (subst (λ k. n < 2 ^ k) bits below)

-- a group is written behind those that were
pub written_more : (buffer rest whole : List ℕ) (i v : ℕ) → i < length buffer → take i buffer ++ v ∷ rest ≡ whole → take (i + 1) (set buffer i v) ++ rest ≡ whole
written_more buffer rest whole i v lt e = rw (take_more_set buffer i v lt, append_assoc) e
