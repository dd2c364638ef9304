-- Steps of building a stack, and what its frames stand for.
use Rattle.std.proofs.Common.{◌≡◌, ℕ, ◌+◌, ◌-◌, ◌<◌, ◌≤◌, List, [], ◌∷◌, ◌++◌, length, map, get_or, drop, refl, sym, ap, subst, ◌∙◌, append_assoc, arith}
use Rattle.std.specs.Prelude.{slice_get, All, Contains, Some}
use Rattle.std.specs.List.{range_with_len, flat_map}
use Rattle.std.specs.Option.{option_map_or}
use Rattle.std.proofs.lemmas.List.{drop_all, drop_more, map-append, same_lists, append-nil, get_or-map, length-map}
use Rattle.std.proofs.lemmas.List.Elements.{All-append, All-cons, All-nil, All-tail}
use Rattle.std.proofs.lemmas.List.FromFn.{map-range_with_len_more, length-map-range_with_len, get_or-map-range_with_len}
use Rattle.std.proofs.lemmas.Option.{slice_get-get_or}
use Rattle.pp_model.specs.declared.frame.Frame.{Frame}
use Rattle.pp_model.specs.declared.profile.Line.{Line}
use Rattle.pp_model.specs.declared.profile.Location.{Location}
use Rattle.pp_model.specs.declared.profile.Profile.{Profile}
use Rattle.pp_model.specs.Rules.{AreNumbered, location_ids}
use Rattle.pp_model.specs.Conditions.{location_at, no_location, IsFrameOf}
use Rattle.pp_model.specs.Frames.{row_frame, rows, frames_from}
use Rattle.pp_model.specs.FrameTexts.{Written, written, written_line, written_lines, written_at}
use Rattle.pp_model.proofs.CompactLemmas.{one_le_id, place_within, find_numbered}

-- a row's frame after those of the rows before it
pub rows_more :
    (place location r : ℕ) (before stack after : List Frame) → stack ≡ before ++ map (row_frame place location) (range_with_len 0 r) →
    after ≡ stack ++ row_frame place location r ∷ [] → after ≡ before ++ map (row_frame place location) (range_with_len 0 (r + 1))
rows_more place location r before stack after so_far added =
    added ∙ ap (λ s. s ++ row_frame place location r ∷ []) so_far ∙ append_assoc before _ _
    ∙ ap (λ s. before ++ s) (sym (map-range_with_len_more (row_frame place location) 0 r r (omega arith)))

-- the rows of one location after those of the locations before it
pub frames_more :
    (p : Profile) (ids : List ℕ) (place : ℕ) (stack after all : List Frame) → place < length ids →
    stack ++ frames_from p place (drop place ids) ≡ all →
    after ≡ stack ++ rows place (get_or ids place 0 - 1) (location_at p (get_or ids place 0 - 1)).line →
    after ++ frames_from p (place + 1) (drop (place + 1) ids) ≡ all
frames_more p ids place stack after all within so_far added =
    ap (λ s. s ++ frames_from p (place + 1) (drop (place + 1) ids)) added ∙ append_assoc stack _ _
    ∙ ap (λ rest. stack ++ frames_from p place rest) (sym (drop_more ids place 0 within)) ∙ so_far

-- no location is left, as the code reads the ids
pub stack_read :
    (p : Profile) (ids given : List ℕ) (place : ℕ) (stack : List Frame) → given ≡ ids → length given ≤ place →
    stack ++ frames_from p place (drop place given) ≡ frames_from p 0 given → stack ≡ frames_from p 0 ids
stack_read p ids given place stack is past so_far =
    sym (append-nil stack) ∙ ap (λ rest. stack ++ frames_from p place rest) (sym (drop_all place given past)) ∙ so_far
    ∙ ap (frames_from p 0) is

-- the location with an id of the profile stands at a place
location_within : (p : Profile) (id : ℕ) → AreNumbered (location_ids p) → Contains (location_ids p) id → id - 1 < length p.location
location_within p id numbered inside =
    omega (arith, place_within (location_ids p) id numbered inside, length-map p.location (λ (l : Location). l.id))

-- a row of a location stands for its line
written_row :
    (p : Profile) (place location r : ℕ) (line : Line) → slice_get (location_at p location).line r ≡ Some line →
    written p (row_frame place location r) ≡ written_line p (location_at p location) line
written_row p place location r line at = rw at refl

-- the rows of a location stand for its lines
written_rows :
    (p : Profile) (place location : ℕ) (lines : List Line) → (location_at p location).line ≡ lines →
    map (written p) (rows place location lines) ≡ written_lines p (location_at p location) lines
written_rows p place location [] _ = refl
written_rows p place location (line ∷ lines) is =
    same_lists _ _ (omega (arith, length-map (map row numbers) (written p), length-map-range_with_len row 0 n, length-map all told))
    (λ k d within. let below : k < n = omega (arith, within, length-map (map row numbers) (written p), length-map-range_with_len row 0 n) in
    get_or-map (written p) (map row numbers) k (row 0) d (omega (arith, below, length-map-range_with_len row 0 n))
    ∙ ap (written p) (get_or-map-range_with_len row 0 n k k (row 0) below (omega arith))
    ∙ written_row p place location k (get_or all k line) (ap (λ ls. slice_get ls k) is ∙ slice_get-get_or all k line below)
    ∙ sym (get_or-map told all k line d below))
  where
    all : List Line
    all = line ∷ lines

    n : ℕ
    n = length all

    row : ℕ → Frame
    row = row_frame place location

    numbers : List ℕ
    numbers = range_with_len 0 n

    told : Line → Written
    told = written_line p (location_at p location)

-- the rows of a location are frames of the profile
pub rows_of_profile :
    (p : Profile) (place location : ℕ) (lines : List Line) → location < length p.location → (location_at p location).line ≡ lines →
    All (IsFrameOf p) (rows place location lines)
rows_of_profile p place location [] within is =
    All-cons (IsFrameOf p) _ [] (record { location = within; row = is }) (All-nil (IsFrameOf p))
rows_of_profile p place location (line ∷ lines) within is = λ k d below.
    let inside : k < length (line ∷ lines) = omega (arith, below, length-map-range_with_len (row_frame place location) 0 (length (line ∷ lines))) in
    let frame : IsFrameOf p (row_frame place location k) = record { location = within; row = omega (arith, inside, ap length is) } in
    subst (IsFrameOf p) (sym (get_or-map-range_with_len (row_frame place location) 0 (length (line ∷ lines)) k k d inside (omega arith))) frame

-- each frame of the stack is one of the profile
pub frames_of_profile :
    (p : Profile) (place : ℕ) (ids : List ℕ) → AreNumbered (location_ids p) → All (Contains (location_ids p)) ids →
    All (IsFrameOf p) (frames_from p place ids)
frames_of_profile p place [] numbered inside = All-nil (IsFrameOf p)
frames_of_profile p place (id ∷ ids) numbered inside =
    All-append (IsFrameOf p) _ _
    (rows_of_profile p place (id - 1) _ (location_within p id numbered (inside 0 0 (omega arith))) refl)
    (frames_of_profile p (place + 1) ids numbered (All-tail (Contains (location_ids p)) id ids inside))

-- the frames of a location that is found by its id
pub written_found :
    (p : Profile) (place id : ℕ) → AreNumbered (location_ids p) → Contains (location_ids p) id →
    map (written p) (rows place (id - 1) (location_at p (id - 1)).line) ≡ written_at p id
written_found p place id numbered inside =
    written_rows p place (id - 1) _ refl
    ∙ ap (λ found. option_map_or (λ location. written_lines p location location.line) found [])
    (sym (find_numbered (λ (l : Location). l.id) p.location (id - 1) id no_location numbered (location_within p id numbered inside)
    (omega (arith, one_le_id _ id numbered inside))))

-- The stack as places stands for the stack in texts.
pub frames_written :
    (p : Profile) (place : ℕ) (ids : List ℕ) → AreNumbered (location_ids p) → All (Contains (location_ids p)) ids →
    map (written p) (frames_from p place ids) ≡ flat_map (written_at p) ids
frames_written p place [] numbered inside = refl
frames_written p place (id ∷ ids) numbered inside =
    map-append (written p) _ _
    ∙ ap (λ s. s ++ map (written p) (frames_from p (place + 1) ids)) (written_found p place id numbered (inside 0 0 (omega arith)))
    ∙ ap (λ s. written_at p id ++ s) (frames_written p (place + 1) ids numbered (All-tail (Contains (location_ids p)) id ids inside))

-- an id among the sample's, as the code reads it
pub one_le_read :
    (p : Profile) (ids given : List ℕ) (k : ℕ) → given ≡ ids → AreNumbered (location_ids p) → All (Contains (location_ids p)) ids →
    k < length given → 1 ≤ get_or given k 0
one_le_read p ids given k is numbered inside within =
    rw is (one_le_id _ _ numbered (inside k 0 (omega (arith, within, ap length is))))

-- the place of its location
pub within_read :
    (p : Profile) (ids given : List ℕ) (k : ℕ) → given ≡ ids → AreNumbered (location_ids p) → All (Contains (location_ids p)) ids →
    k < length given → get_or given k 0 - 1 < length p.location
within_read p ids given k is numbered inside within =
    rw is (location_within p _ numbered (inside k 0 (omega (arith, within, ap length is))))
