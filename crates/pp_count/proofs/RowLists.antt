-- Rows of key numbers in flat lists.
use Rattle.std.proofs.Common.{◌≡◌, ℕ, ◌+◌, ◌-◌, ◌<◌, ◌≤◌, cond, List, [], ◌∷◌, ◌++◌, take, drop, get_or, map, All, refl, sym, ap, ◌∙◌, ⊎_elim, arith, length-drop}
use Rattle.std.proofs.lemmas.Bool.{cases_lt, lt-ltb, le-ltb}
use Rattle.std.proofs.lemmas.List.{get_or_append_left, take-append-le, drop-append-le, map-append}
use Rattle.std.proofs.lemmas.List.Elements.{All-head, All-tail}
use Rattle.pp_base.specs.Front.{IsFront}
use Rattle.pp_count.specs.declared.rows.TheConstants.{LONG}
use Rattle.pp_count.specs.Rows.{row_by, IsRowWithin}

-- the row of an entry that is a number
short_row : (long : List ℕ) (e : ℕ) → e < LONG → row_by long e ≡ e ∷ []
short_row long e below = ap (λ b. cond b (e ∷ []) (take (get_or long (e - LONG) 0) (drop (e - LONG + 1) long))) (lt-ltb e LONG below)

-- the row of an entry that is a place
long_row : (long : List ℕ) (e : ℕ) → LONG ≤ e → row_by long e ≡ take (get_or long (e - LONG) 0) (drop (e - LONG + 1) long)
long_row long e past = ap (λ b. cond b (e ∷ []) (take (get_or long (e - LONG) 0) (drop (e - LONG + 1) long))) (le-ltb e LONG past)

-- a count stays where the list grows
count_front : (long rest : List ℕ) (e : ℕ) → IsRowWithin long e → LONG ≤ e → get_or (long ++ rest) (e - LONG) 0 ≡ get_or long (e - LONG) 0
count_front long rest e within past = get_or_append_left long rest 0 (e - LONG) (omega (arith, within past))

-- so does a row
row_front : (long new : List ℕ) (e : ℕ) → IsFront long new → IsRowWithin long e → row_by new e ≡ row_by long e
row_front long new e front within = ⊎_elim
    (λ below. short_row new e below ∙ sym (short_row long e below))
    (λ past.
    let rest : List ℕ = front.0 in
    let count : ℕ = get_or long (e - LONG) 0 in
    let start : ℕ = e - LONG + 1 in
    long_row new e past
    ∙ ap (λ xs. take (get_or xs (e - LONG) 0) (drop start xs)) front.1
    ∙ ap (λ n. take n (drop start (long ++ rest))) (count_front long rest e within past)
    ∙ ap (take count) (drop-append-le start long rest (omega (arith, within past)))
    ∙ take-append-le count (drop start long) rest (omega (arith, within past, length-drop start long))
    ∙ sym (long_row long e past))
    (cases_lt e LONG)

rows_front : (long new entries : List ℕ) → IsFront long new → All (IsRowWithin long) entries → map (row_by new) entries ≡ map (row_by long) entries
rows_front long new [] front within = refl
rows_front long new (e ∷ entries) front within =
    λ i. row_front long new e front (All-head (IsRowWithin long) e entries within) i ∷ rows_front long new entries front (All-tail (IsRowWithin long) e entries within) i

-- one more row
pub more_rows : (long new entries row : List ℕ) (e : ℕ) → IsFront long new → All (IsRowWithin long) entries → row_by new e ≡ row
    → map (row_by new) (entries ++ e ∷ []) ≡ map (row_by long) entries ++ row ∷ []
more_rows long new entries row e front within is =
    map-append (row_by new) entries (e ∷ []) ∙ (λ i. rows_front long new entries front within i ++ is i ∷ [])
