-- Tallies in rows, whose places are known by key number.
use Rattle.std.proofs.Common.{◌≡◌, ◌≢◌, ℕ, ◌+◌, ◌<◌, Bool, true, false, cond, nat_eq, nat_lt, List, [], ◌∷◌, ◌++◌, length, take, get_or, refl, sym, ap, ◌∙◌, ⊎_elim, arith}
use Rattle.std.proofs.lemmas.Bool.{cases_eq, cases_lt, eq-eqb, eqb-true, ne_eqb}
use Rattle.std.proofs.lemmas.List.{get_or_past, get_or-take, get_or_default, append-nil, length-take-le}
use Rattle.pp_count.specs.declared.tally.Tally.{Tally}
use Rattle.pp_count.specs.declared.slots.TallyRow.{TallyRow}
use Rattle.pp_count.specs.declared.part.KeySum.{KeySum}
use Rattle.pp_count.specs.Tally.{no_tally, no_row, row_tally, slot_tally, tally_entry}
use Rattle.pp_count.specs.Parts.{sums_of}

row_none : (k : ℕ) → row_tally no_row k ≡ no_tally
row_none k = elim (nat_eq 0 k) as (λ b. cond b no_tally no_tally ≡ no_tally) [ true ↦ refl | false ↦ refl ]

-- one more row leaves what is found at other places
other_row : (rows : List TallyRow) (i j : ℕ) → j ≢ i → i < length rows → get_or (take (i + 1) rows) j no_row ≡ get_or (take i rows) j no_row
other_row rows i j other here = ⊎_elim
    (λ before. get_or-take (i + 1) rows j no_row (omega (arith, before)) ∙ sym (get_or-take i rows j no_row before))
    (λ past.
    get_or_past (take (i + 1) rows) j no_row (omega (arith, length-take-le (i + 1) rows (omega (arith, here)), other, past))
    ∙ sym (get_or_past (take i rows) j no_row (omega (arith, length-take-le i rows (omega (arith, here)), past))))
    (cases_lt j i)

-- the entries of a key number with those of one more row, whose key may have another place
row_entry : (row : TallyRow) (k : ℕ) (b : Bool) → nat_eq row.key k ≡ b → cond b (tally_entry row.key row.tally) [] ≡ tally_entry k (cond b row.tally no_tally)
row_entry row k true same = ap (λ n. tally_entry n row.tally) (eqb-true row.key k same)
row_entry row k false other = refl

-- no entries are added
pub nothing : (b : Bool) (sums : List KeySum) → sums ++ cond b [] [] ≡ sums
nothing true sums = append-nil sums
nothing false sums = append-nil sums

-- what the list and the first rows keep of a key number
abbrev pub placed_by : List Tally → List ℕ → List TallyRow → ℕ → Tally
placed_by listed places rows k =
    cond (nat_lt k (length listed)) (get_or listed k no_tally) (cond (nat_lt k (length places)) (slot_tally places rows k) no_tally)

step : (b1 b2 : Bool) (x : Tally) (places : List ℕ) (rows : List TallyRow) (i : ℕ) (d : TallyRow) (k : ℕ) (sums new : List KeySum) → i < length rows
    → sums ≡ tally_entry k (cond b1 x (cond b2 (slot_tally places (take i rows) k) no_tally))
    → new ≡ sums ++ cond (nat_eq (get_or rows i d).key k) (cond (cond b1 false (cond b2 (nat_eq (get_or places k 0) i) false)) (tally_entry (get_or rows i d).key (get_or rows i d).tally) []) []
    → new ≡ tally_entry k (cond b1 x (cond b2 (slot_tally places (take (i + 1) rows) k) no_tally))
step true b2 x places rows i d k sums new here before after = after ∙ nothing (nat_eq (get_or rows i d).key k) sums ∙ before
step false false x places rows i d k sums new here before after = after ∙ nothing (nat_eq (get_or rows i d).key k) sums ∙ before
step false true x places rows i d k sums new here before after =
    let j : ℕ = get_or places k 0 in
    let row : TallyRow = get_or rows i d in
    ⊎_elim
    (λ same.
    let none : sums ≡ [] =
    before ∙ ap (λ r. tally_entry k (row_tally r k)) (get_or_past (take i rows) j no_row (omega (arith, length-take-le i rows (omega (arith, here)), same))) ∙ ap (tally_entry k) (row_none k) in
    let found : get_or (take (i + 1) rows) j no_row ≡ row =
    get_or-take (i + 1) rows j no_row (omega (arith, same)) ∙ ap (λ n. get_or rows n no_row) same ∙ get_or_default rows i no_row d here in
    after
    ∙ ap (λ b. sums ++ cond (nat_eq row.key k) (cond b (tally_entry row.key row.tally) []) []) (eq-eqb j i same)
    ∙ ap (λ ss. ss ++ cond (nat_eq row.key k) (tally_entry row.key row.tally) []) none
    ∙ row_entry row k (nat_eq row.key k) refl
    ∙ ap (λ r. tally_entry k (row_tally r k)) (sym found))
    (λ other.
    after
    ∙ ap (λ b. sums ++ cond (nat_eq row.key k) (cond b (tally_entry row.key row.tally) []) []) (ne_eqb j i other)
    ∙ nothing (nat_eq row.key k) sums ∙ before
    ∙ ap (λ r. tally_entry k (row_tally r k)) (sym (other_row rows i j other here)))
    (cases_eq j i)

-- one more row is listed
pub rows_more : (listed : List Tally) (places : List ℕ) (rows : List TallyRow) (i : ℕ) (d : TallyRow) (sums new : List KeySum) → i < length rows
    → ((k : ℕ) → sums_of k sums ≡ tally_entry k (placed_by listed places (take i rows) k))
    → ((k : ℕ) → sums_of k new
    ≡ sums_of k sums ++ cond (nat_eq (get_or rows i d).key k)
    (cond (cond (nat_lt k (length listed)) false (cond (nat_lt k (length places)) (nat_eq (get_or places k 0) i) false)) (tally_entry (get_or rows i d).key (get_or rows i d).tally) []) [])
    → (k : ℕ) → sums_of k new ≡ tally_entry k (placed_by listed places (take (i + 1) rows) k)
rows_more listed places rows i d sums new here before after k =
    step (nat_lt k (length listed)) (nat_lt k (length places)) (get_or listed k no_tally) places rows i d k (sums_of k sums) (sums_of k new) here (before k) (after k)
