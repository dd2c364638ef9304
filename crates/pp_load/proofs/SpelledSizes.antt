-- How many bytes the fields of a message take.
use Rattle.std.proofs.Common.{◌≡◌, ℕ, zero, suc, ◌+◌, ◌*◌, ◌/◌, ◌^◌, ◌<◌, ◌≤◌, Bool, true, false, List, [], ◌∷◌, ◌++◌, length, inl, inr, refl, arith}
use Rattle.std.specs.Prelude.{◌==◌, if◌then◌else◌}
use Rattle.std.specs.List.{AllByRecursion, flat_map}
use Rattle.std.proofs.lemmas.Bool.{cases_lt}
use Rattle.std.proofs.lemmas.List.{length-append}
use Rattle.pp_wire.specs.Spelling.{shortest, varint_bytes, tag_bytes, number_field, bytes_field, packed_field}
use Rattle.pp_wire.proofs.Briefest.{length_shortest}
use Rattle.pp_wire.proofs.Shortest.{all_groups, last_group, next_group}
use Rattle.pp_tables.specs.Encode.{message_fields}

-- two parts are as long as both
pub joined : (xs ys : List ℕ) (a b : ℕ) → length xs ≤ a → length ys ≤ b → length (xs ++ ys) ≤ a + b
joined xs ys a b first second = omega (arith, length-append xs ys, first, second)

-- a varint has 10 bytes at most
pub shortest_most : (more n : ℕ) → length (shortest more n) ≤ suc more
shortest_most zero n = rw (all_groups n) (omega arith)
shortest_most (suc more) n =
    elim (cases_lt n 128) [
      | inl low ↦ rw (last_group (suc more) n low) (omega arith)
      | inr high ↦ rw (next_group (suc more) more n refl high) (omega (arith, shortest_most more (n / 128)))
    ]

-- the tag of a field below 16 is one byte
tag_within : (number kind : ℕ) → number < 16 → kind < 8 → length (tag_bytes number kind) ≤ 1
tag_within number kind low few = length_shortest 9 0 (8 * number + kind) (omega (arith, low, few))

-- a number's field, and that of a number that k + 1 groups can spell
number_case : (b : Bool) (size : ℕ) (bytes : List ℕ) → length bytes ≤ size → length (if b then [] else bytes) ≤ size
number_case true size bytes within = omega arith
number_case false size bytes within = within

pub number_within : (number k n : ℕ) → number < 16 → n < 128 ^ suc k → length (number_field number n) ≤ suc (suc k)
number_within number k n low below =
    number_case (n == 0) (suc (suc k)) (tag_bytes number 0 ++ varint_bytes n)
    (omega (arith, length-append (tag_bytes number 0) (varint_bytes n), tag_within number 0 low (omega arith), length_shortest 9 k n below))

pub number_most : (number n : ℕ) → number < 16 → length (number_field number n) ≤ 11
number_most number n low =
    number_case (n == 0) 11 (tag_bytes number 0 ++ varint_bytes n)
    (omega (arith, length-append (tag_bytes number 0) (varint_bytes n), tag_within number 0 low (omega arith), shortest_most 9 n))

-- a run of less than 128 bytes, and of any number
pub run_within : (number : ℕ) (bytes : List ℕ) → number < 16 → length bytes < 128 → length (bytes_field number bytes) ≤ 2 + length bytes
run_within number bytes low few =
    joined (tag_bytes number 2 ++ varint_bytes (length bytes)) bytes 2 (length bytes)
    (joined (tag_bytes number 2) (varint_bytes (length bytes)) 1 1 (tag_within number 2 low (omega arith)) (length_shortest 9 0 (length bytes) (omega (arith, few)))) (omega arith)

pub run_most : (number : ℕ) (bytes : List ℕ) → number < 16 → length (bytes_field number bytes) ≤ 11 + length bytes
run_most number bytes low =
    joined (tag_bytes number 2 ++ varint_bytes (length bytes)) bytes 11 (length bytes)
    (joined (tag_bytes number 2) (varint_bytes (length bytes)) 1 10 (tag_within number 2 low (omega arith)) (shortest_most 9 (length bytes))) (omega arith)

-- bytes of items of which each has no more than this
pub flat_within : {A : Type 0} (f : A → List ℕ) (most : ℕ) (xs : List A) → AllByRecursion (λ x. length (f x) ≤ most) xs → length (flat_map f xs) ≤ most * length xs
flat_within f most [] all = omega arith
flat_within f most (x ∷ xs) all =
    let rest = flat_within f most xs all.1 in
    let more : most * length (x ∷ xs) ≡ most + most * length xs = omega arith in
    omega (arith, length-append (f x) (flat_map f xs), all.0, rest, more)

-- numbers in a run of less than 128 bytes
pub packed_within : (number most : ℕ) (list : List ℕ) → number < 16 → length (flat_map varint_bytes list) ≤ most → most < 128 → length (packed_field number list) ≤ 2 + most
packed_within number most [] low within few = omega arith
packed_within number most (n ∷ list) low within few = omega (arith, run_within number (flat_map varint_bytes (n ∷ list)) low (omega (arith, within, few)), within)

-- fields with messages of which each has no more bytes than this
pub messages_most : {A : Type 0} (bytes_of : A → List ℕ) (number most : ℕ) (xs : List A) → number < 16 → AllByRecursion (λ x. length (bytes_of x) ≤ most) xs
    → length (message_fields bytes_of number xs) ≤ (11 + most) * length xs
messages_most bytes_of number most [] low all = omega arith
messages_most bytes_of number most (x ∷ xs) low all =
    let rest = messages_most bytes_of number most xs low all.1 in
    let more : (11 + most) * length (x ∷ xs) ≡ (11 + most) + (11 + most) * length xs = omega arith in
    omega (arith, length-append (bytes_field number (bytes_of x)) (message_fields bytes_of number xs), run_most number (bytes_of x) low, all.0, rest, more)

pub messages_within : {A : Type 0} (bytes_of : A → List ℕ) (number most : ℕ) (xs : List A) → number < 16 → most < 128 → AllByRecursion (λ x. length (bytes_of x) ≤ most) xs
    → length (message_fields bytes_of number xs) ≤ (2 + most) * length xs
messages_within bytes_of number most [] low few all = omega arith
messages_within bytes_of number most (x ∷ xs) low few all =
    let rest = messages_within bytes_of number most xs low few all.1 in
    let more : (2 + most) * length (x ∷ xs) ≡ (2 + most) + (2 + most) * length xs = omega arith in
    omega (arith, length-append (bytes_field number (bytes_of x)) (message_fields bytes_of number xs), run_within number (bytes_of x) low (omega (arith, all.0, few)), all.0, rest, more)
