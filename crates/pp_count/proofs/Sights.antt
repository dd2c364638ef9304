-- The key numbers of frames.
use Rattle.std.proofs.Common.{◌≡◌, ℕ, ◌+◌, ◌<◌, ◌≤◌, append_assoc, true, false, List, [], ◌∷◌, ◌++◌, length, drop, get_or, map, All, refl, sym, ap, ◌∙◌, subst, arith}
use Rattle.std.specs.Option.{unwrap_or}
use Rattle.std.proofs.lemmas.List.{get_or-map, get_or_default, length-map, map-append, append-nil}
use Rattle.std.proofs.Math.ListN.{drop_of_length-le}
use Rattle.std.proofs.lemmas.List.Elements.{All-push}
use Rattle.pp_model.specs.declared.frame.Frame.{Frame}
use Rattle.pp_model.specs.declared.profile.Profile.{Profile}
use Rattle.pp_model.specs.declared.grouping.Grouping.{Grouping}
use Rattle.pp_model.specs.Conditions.{IsFrameOf}
use Rattle.pp_model.specs.Frames.{rows, lines_at}
use Rattle.pp_model.specs.FrameTexts.{Written, written}
use Rattle.pp_grain.specs.Keys.{frame_counts, key_texts}
use Rattle.pp_stack.proofs.RowLemmas.{frame_in}
use Rattle.pp_count.specs.declared.table.KeyTable.{KeyTable}
use Rattle.pp_count.specs.Table.{written_key, IsKeyTable}
use Rattle.pp_count.specs.Seeing.{key_of_frame, keys_of_stack}
use Rattle.pp_count.proofs.CountedFrames.{one_more, no_more}

-- the number of a frame's key
abbrev pub number_at : List (List ℕ) → Frame → ℕ
number_at rows f = get_or (get_or rows f.location []) (unwrap_or f.row 0) 0

-- The number stands in the table, and is that of the frame's key.
pub record HasNumber (p : Profile) (grouping : Grouping) (table : KeyTable) (f : Frame) : Type 0 where
  pub location : f.location < length table.location
  pub row : unwrap_or f.row 0 < length (get_or table.location f.location [])
  pub below : number_at table.location f < length table.names
  pub named : written_key p table.names (number_at table.location f) ≡ key_of_frame p grouping f

pub number_is : (p : Profile) (grouping : Grouping) (table : KeyTable) (f : Frame) → IsKeyTable p grouping table → IsFrameOf p f → HasNumber p grouping table f
number_is p grouping table f t is =
    let within : f.location < length table.location = omega (arith, t.count, is.location) in
    let row : List ℕ = get_or table.location f.location [] in
    let places : List Frame = rows 0 f.location (lines_at p f.location) in
    let at : ℕ = unwrap_or f.row 0 in
    let place = frame_in f.location (lines_at p f.location) f.row f is.row in
    let numbered = t.each f.location within in
    let key : Written → Written = key_texts grouping.grain grouping.showcolumns in
    let long : length row ≡ length places =
    sym (length-map row (written_key p table.names)) ∙ ap length numbered.keys ∙ length-map (map (written p) places) key ∙ length-map places (written p) in
    let here : at < length row = omega (arith, long, place.0) in
    record {
      location = within;
      row = here;
      below = numbered.below at 0 here;
      named = sym (get_or-map (written_key p table.names) row at 0 (written p f) here) ∙ ap (λ ws. get_or ws at (written p f)) numbered.keys
          ∙ get_or-map key (map (written p) places) at (written p f) (written p f) (omega (arith, place.0, length-map places (written p)))
          ∙ ap key (get_or-map (written p) places at f (written p f) place.0 ∙ ap (written p) place.1);
    }

-- The place of the row that was read has the number of the frame's key.
pub record IsThere (p : Profile) (grouping : Grouping) (table : KeyTable) (f : Frame) (row : List ℕ) (at : ℕ) : Type 0 where
  pub within : at < length row
  pub below : get_or row at 0 < length table.names
  pub named : written_key p table.names (get_or row at 0) ≡ key_of_frame p grouping f

pub number_there : (p : Profile) (grouping : Grouping) (table : KeyTable) (f : Frame) (row : List ℕ) (at : ℕ)
    → IsKeyTable p grouping table → IsFrameOf p f → row ≡ get_or table.location f.location [] → at ≡ unwrap_or f.row 0
    → IsThere p grouping table f row at
number_there p grouping table f row at t is read place =
    let has = number_is p grouping table f t is in
    subst (λ (r : List ℕ). IsThere p grouping table f r at) (sym read)
    (subst (λ (n : ℕ). IsThere p grouping table f (get_or table.location f.location []) n) (sym place)
    (record { within = has.row; below = has.below; named = has.named }))

-- The key numbers so far, and the keys of the frames that are left.
pub record NumberedTo (p : Profile) (grouping : Grouping) (table : KeyTable) (stack : List Frame) (i : ℕ) (keys : List ℕ) : Type 0 where
  pub below : All (λ k. k < length table.names) keys
  pub named : map (written_key p table.names) keys ++ keys_of_stack p grouping (drop i stack) ≡ keys_of_stack p grouping stack

pub numbered_none : (p : Profile) (grouping : Grouping) (table : KeyTable) (stack : List Frame) (keys : List ℕ) → keys ≡ [] → NumberedTo p grouping table stack 0 keys
numbered_none p grouping table stack keys none = rw none (record { below = λ k d below. absurd (omega (arith, below)); named = refl })

-- one more frame, which counts
pub numbered_more : (p : Profile) (grouping : Grouping) (table : KeyTable) (stack : List Frame) (i : ℕ) (keys : List ℕ) (f : Frame) (n : ℕ)
    → i < length stack → f ≡ get_or stack i f → frame_counts stack i grouping.noinlines ≡ true
    → n < length table.names → written_key p table.names n ≡ key_of_frame p grouping f
    → NumberedTo p grouping table stack i keys → NumberedTo p grouping table stack (i + 1) (keys ++ n ∷ [])
numbered_more p grouping table stack i keys f n here is counted below named so_far = record {
  below = All-push (λ k. k < length table.names) keys n so_far.below below;
  named =
      ap (λ ks. ks ++ keys_of_stack p grouping (drop (i + 1) stack)) (map-append (written_key p table.names) keys (n ∷ []))
      ∙ append_assoc (map (written_key p table.names) keys) (written_key p table.names n ∷ []) (keys_of_stack p grouping (drop (i + 1) stack))
      ∙ ap (λ k. map (written_key p table.names) keys ++ k ∷ keys_of_stack p grouping (drop (i + 1) stack)) named
      ∙ ap (λ fs. map (written_key p table.names) keys ++ map (key_of_frame p grouping) fs)
      (one_more stack i grouping.noinlines f here is counted)
      ∙ so_far.named;
}

-- the numbers of the frames that were read from the stack
pub numbered_read : (p : Profile) (grouping : Grouping) (table : KeyTable) (stack read : List Frame) (i : ℕ) (keys : List ℕ) (d : Frame) (n : ℕ)
    → read ≡ stack → i < length read → frame_counts stack i grouping.noinlines ≡ true
    → n < length table.names → written_key p table.names n ≡ key_of_frame p grouping (get_or read i d)
    → NumberedTo p grouping table stack i keys → NumberedTo p grouping table stack (i + 1) (keys ++ n ∷ [])
numbered_read p grouping table stack read i keys d n lent here counted below named so_far =
    let within : i < length stack = omega (arith, here, ap length lent) in
    numbered_more p grouping table stack i keys (get_or read i d) n within
    (ap (λ fs. get_or fs i d) lent ∙ get_or_default stack i d (get_or read i d) within) counted below named so_far

-- one more frame, which doesn't
pub numbered_other : (p : Profile) (grouping : Grouping) (table : KeyTable) (stack : List Frame) (i : ℕ) (keys : List ℕ)
    → i < length stack → frame_counts stack i grouping.noinlines ≡ false
    → NumberedTo p grouping table stack i keys → NumberedTo p grouping table stack (i + 1) keys
numbered_other p grouping table stack i keys here other so_far =
    record {
      below = so_far.below;
      named =
          ap (λ fs. map (written_key p table.names) keys ++ map (key_of_frame p grouping) fs) (no_more stack i grouping.noinlines here other)
          ∙ so_far.named;
    }

-- past the last frame all are numbered
pub numbered_all : (p : Profile) (grouping : Grouping) (table : KeyTable) (stack : List Frame) (i : ℕ) (keys : List ℕ) → length stack ≤ i
    → NumberedTo p grouping table stack i keys → map (written_key p table.names) keys ≡ keys_of_stack p grouping stack
numbered_all p grouping table stack i keys past so_far =
    sym (append-nil (map (written_key p table.names) keys))
    ∙ ap (λ fs. map (written_key p table.names) keys ++ keys_of_stack p grouping fs) (sym (drop_of_length-le stack past)) ∙ so_far.named
