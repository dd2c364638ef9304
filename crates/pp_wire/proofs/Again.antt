-- What was written is read again.
use Rattle.std.proofs.Common.{◌≡◌, ℕ, zero, suc, ◌+◌, ◌-◌, ◌*◌, ◌/◌, ◌%◌, ◌^◌, ◌<◌, ◌≤◌, false, ltb, eqb, List, [], ◌∷◌, ◌++◌, length, None, Ok, refl, sym, ap, ◌∙◌, append_assoc, arith, inl, inr, lit≤}
use Rattle.std.specs.List.{flat_map, AllByRecursion}
use Rattle.std.proofs.Math.Nat.{pow-suc}
use Rattle.std.proofs.lemmas.Nat.{div_below}
use Rattle.std.proofs.lemmas.Bool.{cases_lt, lt-ltb, le-ltb, ne_eqb}
use Rattle.std.proofs.lemmas.List.{take_at, drop_at, length-append}
use Rattle.std.proofs.lemmas.List.Concat.{flat_map-cons}
use Rattle.pp_wire.specs.declared.fault.WireKind.{WireKind}
use Rattle.pp_wire.specs.Reading.{Read}
use Rattle.pp_wire.specs.Varint.{groups, varint}
use Rattle.pp_wire.specs.Walk.{walk_in, walk_of, placed, more}
use Rattle.pp_wire.specs.Fields.{Content, Varint, Bytes, Item, number_in, length_delimited, number, content, field_in, field, fields, numbers}
use Rattle.pp_wire.specs.Spelling.{shortest, varint_bytes, tag_bytes, number_field, bytes_field}
use Rattle.pp_wire.proofs.Walks.{walk_more}
use Rattle.pp_wire.proofs.Shrinking.{field_shrinks, number_shrinks}
use Rattle.pp_wire.proofs.Shortest.{last_group, next_group}

abbrev read_of : {A : Type 0} → A → List ℕ → Read A WireKind
read_of x rest = Ok (x, rest)

one_group : (k n : ℕ) (rest : List ℕ) → n < 128 → groups (suc k) (n ∷ rest) ≡ read_of n rest
unfolding groups
one_group k n rest lt = let test = lt-ltb n 128 lt in rw test refl

first_group : (k b : ℕ) (bytes rest : List ℕ) (high : ℕ) → 128 ≤ b → groups k bytes ≡ read_of high rest → groups (suc k) (b ∷ bytes) ≡ read_of ((b - 128) + 128 * high) rest
unfolding groups
first_group k b bytes rest high le e = let test = le-ltb b 128 le in rw (test, e) refl

groups_again : (k n : ℕ) (rest : List ℕ) → n < 128 ^ suc k → groups (suc k) (shortest k n ++ rest) ≡ read_of n rest
groups_again zero n rest lt = rw (last_group zero n lt) (one_group zero n rest lt)
groups_again (suc k) n rest lt =
    elim (cases_lt n 128) [
      | inl low ↦ rw (last_group (suc k) n low) (one_group (suc k) n rest low)
      | inr high ↦
          let below : n / 128 < 128 ^ suc k = div_below n 128 (128 ^ suc k) (omega arith) (rw (pow-suc 128 (suc k)) at lt) in
          let again = first_group (suc k) (128 + n % 128) (shortest k (n / 128) ++ rest) rest (n / 128) (omega arith) (groups_again k (n / 128) rest below) in
          let whole : ((128 + n % 128) - 128) + 128 * (n / 128) ≡ n = omega arith in
          rw (next_group (suc k) k n refl high) (again ∙ ap (λ m. read_of m rest) whole)
    ]

pub varint_again : (n : ℕ) (rest : List ℕ) → n < 2 ^ 64 → varint (varint_bytes n ++ rest) ≡ read_of n rest
unfolding varint
varint_again n rest lt =
    let wide : 2 ^ 64 ≤ 128 ^ 10 = lit≤ tt in
    let small : n % 2 ^ 64 ≡ n = omega arith in
    rw (groups_again 9 n rest (omega (arith, wide))) (ap (λ m. read_of m rest) small)

pub varint_some : (more n : ℕ) → 0 < length (shortest more n)
unfolding shortest
varint_some zero n = omega arith
varint_some (suc more) n = elim (cases_lt n 128) [ inl low ↦ rw (last_group (suc more) n low) (omega arith) | inr high ↦ rw (next_group (suc more) more n refl high) (omega arith) ]

-- ---- fields

tag_of : (number kind : ℕ) → kind < 8 → (8 * number + kind) / 8 ≡ number
tag_of number kind lt = omega arith

kind_of : (number kind : ℕ) → kind < 8 → (8 * number + kind) % 8 ≡ kind
kind_of number kind lt = omega arith

number_in_again : (number kind : ℕ) → kind < 8 → 1 ≤ number → number < 2 ^ 29 → number_in (8 * number + kind) ≡ Ok number
unfolding number_in
number_in_again number kind lt least below =
    let some = lt-ltb 0 number (omega arith) in
    let fits = lt-ltb number (2 ^ 29) below in
    rw (tag_of number kind lt, some, fits) refl

number_again : (n : ℕ) (rest : List ℕ) → n < 2 ^ 64 → number (varint_bytes n ++ rest) ≡ read_of (Varint n) rest
unfolding number
number_again n rest lt = rw (varint_again n rest lt) refl

run_again : (end : ℕ) (bytes rest : List ℕ) → length bytes < 2 ^ 64 → length_delimited end (varint_bytes (length bytes) ++ (bytes ++ rest)) ≡ read_of (Bytes bytes (end - length (bytes ++ rest))) rest
unfolding length_delimited
run_again end bytes rest lt =
    let long : ltb (length (bytes ++ rest)) (length bytes) ≡ false = le-ltb _ _ (omega (arith, length-append bytes rest)) in
    rw (varint_again (length bytes) (bytes ++ rest) lt, long, take_at bytes rest (length bytes) refl, drop_at bytes rest (length bytes) refl) refl

number_content : (end : ℕ) (bytes : List ℕ) → content end 0 bytes ≡ number bytes
unfolding content
number_content end bytes = refl

run_content : (end : ℕ) (bytes : List ℕ) → content end 2 bytes ≡ length_delimited end bytes
unfolding content
run_content end bytes = refl

abbrev item_of : ℕ → Content → ℕ → Item
item_of number content at = record { number = number; content = content; at = at }

field_in_again : (end number kind : ℕ) (payload rest : List ℕ) (x : Content) → kind < 8 → 1 ≤ number → number < 2 ^ 29 → content end kind payload ≡ read_of x rest
    → field_in end (tag_bytes number kind ++ payload) ≡ read_of (item_of number x (end - length (tag_bytes number kind ++ payload))) rest
unfolding field_in
field_in_again end number kind payload rest x lt least below e =
    rw (varint_again (8 * number + kind) payload (omega arith), number_in_again number kind lt least below, kind_of number kind lt, e) refl

-- a field whose bytes are at the front
fields_step : (bytes rest : List ℕ) (x : Item) (base : ℕ) → 0 < length bytes → field_in (base + length (bytes ++ rest)) (bytes ++ rest) ≡ read_of x rest
    → fields (bytes ++ rest) base ≡ more x (fields rest (base + length bytes))
unfolding field
fields_step bytes rest x base some e =
    let end = base + length (bytes ++ rest) in
    let same : end ≡ (base + length bytes) + length rest = omega (arith, length-append bytes rest) in
    walk_more (field end) (field_shrinks end) (bytes ++ rest) (x, rest) (omega (arith, length-append bytes rest)) (ap (placed (end - length (bytes ++ rest))) e)
    ∙ ap (λ (e : ℕ). more x (walk_of (field e) rest)) same

-- the bytes of a field begin with its tag
field_step : (number kind : ℕ) (payload after : List ℕ) (x : Content) (base : ℕ) → kind < 8 → 1 ≤ number → number < 2 ^ 29
    → content (base + length ((tag_bytes number kind ++ payload) ++ after)) kind (payload ++ after) ≡ read_of x after
    → fields ((tag_bytes number kind ++ payload) ++ after) base ≡ more (item_of number x base) (fields after (base + length (tag_bytes number kind ++ payload)))
field_step number kind payload after x base lt least below e =
    let tag = tag_bytes number kind in
    let end = base + length ((tag ++ payload) ++ after) in
    let grouped : (tag ++ payload) ++ after ≡ tag ++ (payload ++ after) = append_assoc tag payload after in
    let place : end - length (tag ++ (payload ++ after)) ≡ base = omega (arith, ap length grouped) in
    let read = field_in_again end number kind (payload ++ after) after x lt least below e in
    fields_step (tag ++ payload) after (item_of number x base) base (omega (arith, varint_some 9 (8 * number + kind), length-append tag payload))
    (ap (field_in end) grouped ∙ read ∙ ap (λ (at : ℕ). read_of (item_of number x at) after) place)

pub number_field_again : (number n : ℕ) (rest : List ℕ) (base : ℕ) → 1 ≤ number → number < 2 ^ 29 → 0 < n → n < 2 ^ 64
    → fields (number_field number n ++ rest) base ≡ more (record { number = number; content = Varint n; at = base }) (fields rest (base + length (number_field number n)))
number_field_again number n rest base least below some lt =
    let there : eqb n 0 ≡ false = ne_eqb n 0 (λ e. omega arith) in
    rw there (field_step number 0 (varint_bytes n) rest (Varint n) base (omega arith) least below (number_content _ (varint_bytes n ++ rest) ∙ number_again n rest lt))

pub bytes_field_again : (number : ℕ) (bytes rest : List ℕ) (base : ℕ) → 1 ≤ number → number < 2 ^ 29 → length bytes < 2 ^ 64
    → fields (bytes_field number bytes ++ rest) base
    ≡ more (record { number = number; content = Bytes bytes (base + length (tag_bytes number 2 ++ varint_bytes (length bytes))); at = base }) (fields rest (base + length (bytes_field number bytes)))
bytes_field_again number bytes rest base least below lt =
    let tag = tag_bytes number 2 in
    let len = varint_bytes (length bytes) in
    let grouped : bytes_field number bytes ≡ tag ++ (len ++ bytes) = append_assoc tag len bytes in
    let end = base + length ((tag ++ (len ++ bytes)) ++ rest) in
    let place : end - length (bytes ++ rest) ≡ base + length (tag ++ len) =
    omega (arith, length-append (tag ++ (len ++ bytes)) rest, length-append tag (len ++ bytes), length-append len bytes, length-append bytes rest, length-append tag len) in
    let read = run_content end ((len ++ bytes) ++ rest) ∙ ap (length_delimited end) (append_assoc len bytes rest) ∙ run_again end bytes rest lt in
    let step = field_step number 2 (len ++ bytes) rest (Bytes bytes (end - length (bytes ++ rest))) base (omega arith) least below read in
    ap (λ (b : List ℕ). fields (b ++ rest) base) grouped ∙ step
    ∙ ap (λ (at : ℕ). more (item_of number (Bytes bytes at) base) (fields rest (base + length (tag ++ (len ++ bytes))))) place
    ∙ ap (λ (b : List ℕ). more (item_of number (Bytes bytes (base + length (tag ++ len))) base) (fields rest (base + length b))) (sym grouped)

-- ---- packed numbers

pub packed_again : (list : List ℕ) (at : ℕ) → AllByRecursion (λ n. n < 2 ^ 64) list → numbers (flat_map varint_bytes list) at ≡ record { items = list; fault = None }
unfolding walk_in
packed_again [] at fits = refl
packed_again (n ∷ list) at fits =
    let rest = flat_map varint_bytes list in
    ap (λ (b : List ℕ). numbers b at) (flat_map-cons varint_bytes n list)
    ∙ walk_more (λ bytes. placed at (varint bytes)) (number_shrinks at) (varint_bytes n ++ rest) (n, rest) (omega (arith, length-append (varint_bytes n) rest, varint_some 9 n)) (ap (placed at) (varint_again n rest fits.0))
    ∙ ap (more n) (packed_again list at fits.1)
