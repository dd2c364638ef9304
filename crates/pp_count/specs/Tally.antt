-- What is kept for each key number while samples are added up. No public clause cites it.
use Rattle.std.specs.Prelude.{◌≡◌, ℕ, ◌==◌, Bool, false, nat_eq, nat_lt, ℤ, pos, ◌+ℤ◌, List, [], ◌∷◌, length, slice_index_or, if◌then◌else◌}
use Rattle.std.specs.Option.{unwrap_or}
use Rattle.std.specs.Ordering.{nat_cmp, int_eq}
use Rattle.indexmap.specs.IndexMap.{get}
use Rattle.pp_count.specs.Sums.{Seen, cum, flat, has, leads, occurs}
use Rattle.pp_count.specs.declared.tally.Tally.{Tally}
use Rattle.pp_count.specs.declared.slots.TallyRow.{TallyRow}
use Rattle.pp_count.specs.declared.tallies.Tallies.{Tallies}
use Rattle.pp_count.specs.declared.part.KeySum.{KeySum}

-- no sample had the key
abbrev pub no_tally : Tally
no_tally = record { flat = pos 0; cum = pos 0; last = 0 }

-- the row of no key
abbrev pub no_row : TallyRow
no_row = record { key = 0; tally = no_tally }

-- what the row says of the key number
abbrev pub row_tally : TallyRow → ℕ → Tally
row_tally row k = if nat_eq row.key k then row.tally else no_tally

-- what is kept of the key number in rows, where the list has the place of each number's row
abbrev pub slot_tally : List ℕ → List TallyRow → ℕ → Tally
slot_tally places rows k = row_tally (slice_index_or rows (slice_index_or places k 0) no_row) k

-- what the list and the slots keep of the key number: those of higher numbers have none
abbrev pub placed_tally : Tallies → ℕ → Tally
placed_tally tallies k =
    if nat_lt k (length tallies.listed.items) then slice_index_or tallies.listed.items k no_tally
    else if nat_lt k (length tallies.slots.place.items)
    then slot_tally tallies.slots.place.items tallies.slots.rows.items k
    else no_tally

-- the key number is past the list, and its row is the one at the place
abbrev pub has_row_at : Tallies → ℕ → ℕ → Bool
has_row_at tallies place k =
    if nat_lt k (length tallies.listed.items) then false
    else if nat_lt k (length tallies.slots.place.items)
    then nat_eq (slice_index_or tallies.slots.place.items k 0) place
    else false

-- what is kept of the key number: in the list as far as it goes, else in the slots as far as they go, else in the map
unfoldable pub tally_at : Tallies → ℕ → Tally
tally_at tallies k =
    if nat_lt k (length tallies.listed.items) then slice_index_or tallies.listed.items k no_tally
    else if nat_lt k (length tallies.slots.place.items)
    then slot_tally tallies.slots.place.items tallies.slots.rows.items k
    else unwrap_or (get nat_eq tallies.others k) no_tally

-- The tally is that of the key over these samples.
pub record IsTallyOf (samples : List (Seen ℕ)) (k : ℕ) (t : Tally) : Type 0 where
  pub flat : t.flat ≡ flat nat_cmp samples k
  pub cum : t.cum ≡ cum nat_cmp samples k
  pub occurs : nat_lt 0 t.last ≡ occurs nat_cmp samples k

-- the tally after one more frame of the sample of this value and turn: a sample counts once
abbrev pub credited : ℤ → ℕ → Tally → Tally
credited value turn t =
    if t.last == turn then t else record { flat = t.flat; cum = t.cum +ℤ value; last = turn }

-- the tally of the key number after a sample of this value and turn, which has these keys
abbrev pub with_cum : ℤ → ℕ → List ℕ → ℕ → Tally → Tally
with_cum value turn keys k t =
    if has nat_cmp k keys then record { flat = t.flat; cum = t.cum +ℤ value; last = turn } else t

-- the tally with the value in its flat, which only the leaf's key has
abbrev pub with_flat : ℤ → List ℕ → ℕ → Tally → Tally
with_flat value keys k t =
    if leads nat_cmp k keys then record { flat = t.flat +ℤ value; cum = t.cum; last = t.last }
    else t

-- the tally after the whole sample
abbrev pub with_sample : ℤ → ℕ → List ℕ → ℕ → Tally → Tally
with_sample value turn keys k t = with_flat value keys k (with_cum value turn keys k t)

-- the tally with any sample: one of value 0 leaves it as it is
abbrev pub with_seen : ℤ → ℕ → List ℕ → ℕ → Tally → Tally
with_seen value turn keys k t =
    if int_eq value (pos 0) then t else with_sample value turn keys k t

-- the entry of a key's tally, and none where no sample had the key
abbrev pub tally_entry : ℕ → Tally → List KeySum
tally_entry k t =
    if nat_lt 0 t.last then record { key = k; flat = t.flat; cum = t.cum } ∷ [] else []

-- the tally with the sums of another range that has the key
abbrev pub tally_plus : Tally → KeySum → Tally
tally_plus t e = record { flat = t.flat +ℤ e.flat; cum = t.cum +ℤ e.cum; last = 1 }

-- the tally of a key with the entries of another range added
abbrev pub tally_added : Tally → List KeySum → Tally
tally_added t [] = t
tally_added t (e ∷ es) = tally_added (tally_plus t e) es
