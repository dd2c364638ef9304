-- The key numbers of all frames of a sample, location by location.
use Rattle.std.proofs.Common.{◌≡◌, ℕ, ◌+◌, ◌-◌, ◌<◌, ◌≤◌, append_assoc, false, List, [], ◌∷◌, ◌++◌, length, drop, get_or, map, All, refl, sym, ap, ◌∙◌, subst, arith}
use Rattle.std.specs.List.{range_with_len}
use Rattle.std.proofs.lemmas.Simd.{map-map}
use Rattle.std.proofs.lemmas.List.{map-append, append-nil, drop_more, drop_all}
use Rattle.std.proofs.lemmas.List.Elements.{All-append}
use Rattle.pp_model.specs.declared.frame.Frame.{Frame}
use Rattle.pp_model.specs.declared.profile.Line.{Line}
use Rattle.pp_model.specs.declared.profile.Profile.{Profile}
use Rattle.pp_model.specs.declared.grouping.Grouping.{Grouping}
use Rattle.pp_model.specs.Frames.{rows, row_frame, frames_from, lines_at}
use Rattle.pp_model.specs.FrameTexts.{Written, written}
use Rattle.pp_grain.specs.declared.key.Key.{Key}
use Rattle.pp_grain.specs.Keys.{key_texts}
use Rattle.pp_count.specs.declared.table.KeyTable.{KeyTable}
use Rattle.pp_count.specs.Table.{written_key, IsRow, IsKeyTable}
use Rattle.pp_count.specs.Seeing.{counted_frames, key_of_frame, keys_of_stack}

-- the keys of all frames
abbrev pub all_keys : Profile → Grouping → List Frame → List Written
all_keys p grouping stack = map (key_of_frame p grouping) stack

-- where inlined frames count, all frames do
all_count : (stack : List Frame) → counted_frames false stack ≡ stack
all_count [] = refl
all_count (f ∷ stack) = ap (λ r. f ∷ r) (all_count stack)

pub keys_of_all : (p : Profile) (grouping : Grouping) (stack : List Frame) → grouping.noinlines ≡ false → all_keys p grouping stack ≡ keys_of_stack p grouping stack
keys_of_all p grouping stack all = ap (map (key_of_frame p grouping)) (sym (ap (λ b. counted_frames b stack) all ∙ all_count stack))

-- a location's frames are written the same wherever it stands in a sample
rows_anywhere : (p : Profile) (place location : ℕ) (lines : List Line) → map (written p) (rows place location lines) ≡ map (written p) (rows 0 location lines)
rows_anywhere p place location [] = refl
rows_anywhere p place location (line ∷ lines) =
    map-map (written p) (row_frame place location) (range_with_len 0 (length (line ∷ lines)))
    ∙ sym (map-map (written p) (row_frame 0 location) (range_with_len 0 (length (line ∷ lines))))

-- the numbers of a row are those of the location's frames
row_named : (p : Profile) (grouping : Grouping) (names : List Key) (place location : ℕ) (row : List ℕ) → IsRow grouping.grain grouping.showcolumns p names location row
    → map (written_key p names) row ≡ all_keys p grouping (rows place location (lines_at p location))
row_named p grouping names place location row is =
    is.keys ∙ ap (map (key_texts grouping.grain grouping.showcolumns)) (sym (rows_anywhere p place location (lines_at p location)))
    ∙ map-map (key_texts grouping.grain grouping.showcolumns) (written p) (rows place location (lines_at p location))

-- The key numbers of the locations so far, and the keys of the locations that are left.
pub record LocatedTo (p : Profile) (grouping : Grouping) (table : KeyTable) (ids : List ℕ) (i : ℕ) (keys : List ℕ) : Type 0 where
  pub below : All (λ k. k < length table.names) keys
  pub named : map (written_key p table.names) keys ++ all_keys p grouping (frames_from p i (drop i ids)) ≡ all_keys p grouping (frames_from p 0 ids)

pub located_none : (p : Profile) (grouping : Grouping) (table : KeyTable) (ids keys : List ℕ) → keys ≡ [] → LocatedTo p grouping table ids 0 keys
located_none p grouping table ids keys none = rw none (record { below = λ k d below. absurd (omega (arith, below)); named = refl })

-- one more location, whose row was read
pub located_more : (p : Profile) (grouping : Grouping) (table : KeyTable) (ids : List ℕ) (i : ℕ) (keys row : List ℕ)
    → IsKeyTable p grouping table → i < length ids → get_or ids i 0 - 1 < length table.location → row ≡ get_or table.location (get_or ids i 0 - 1) []
    → LocatedTo p grouping table ids i keys → LocatedTo p grouping table ids (i + 1) (keys ++ row)
located_more p grouping table ids i keys row t here within read so_far =
    let location : ℕ = get_or ids i 0 - 1 in
    let is : IsRow grouping.grain grouping.showcolumns p table.names location row =
    subst (λ (r : List ℕ). IsRow grouping.grain grouping.showcolumns p table.names location r) (sym read) (t.each location within) in
    let name : ℕ → Written = written_key p table.names in
    let rest : List Written = all_keys p grouping (frames_from p (i + 1) (drop (i + 1) ids)) in
    record {
      below = All-append (λ k. k < length table.names) keys row so_far.below is.below;
      named =
          ap (λ ks. ks ++ rest) (map-append name keys row)
          ∙ append_assoc (map name keys) (map name row) rest
          ∙ ap (λ ks. map name keys ++ ks) (ap (λ ks. ks ++ rest) (row_named p grouping table.names i location row is)
          ∙ sym (map-append (key_of_frame p grouping) (rows i location (lines_at p location)) (frames_from p (i + 1) (drop (i + 1) ids)))
          ∙ ap (λ js. all_keys p grouping (frames_from p i js)) (sym (drop_more ids i 0 here)))
          ∙ so_far.named;
    }

-- past the last location all frames have their numbers
pub located_all : (p : Profile) (grouping : Grouping) (table : KeyTable) (ids : List ℕ) (i : ℕ) (keys : List ℕ) → grouping.noinlines ≡ false → length ids ≤ i
    → LocatedTo p grouping table ids i keys → map (written_key p table.names) keys ≡ keys_of_stack p grouping (frames_from p 0 ids)
located_all p grouping table ids i keys all past so_far =
    sym (append-nil (map (written_key p table.names) keys))
    ∙ ap (λ js. map (written_key p table.names) keys ++ all_keys p grouping (frames_from p i js)) (sym (drop_all i ids past))
    ∙ so_far.named ∙ keys_of_all p grouping (frames_from p 0 ids) all
