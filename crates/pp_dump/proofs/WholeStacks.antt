-- Without filters, the stacks that are left of a profile are those that it has.
use Rattle.std.proofs.Common.{◌≡◌, ℕ, ◌+◌, ◌-◌, ◌<◌, ◌≤◌, List, [], ◌∷◌, ◌++◌, map, length, get_or, All, Contains, Option, Some, None, refl, sym, ap, ◌∙◌, arith, append-nil}
use Rattle.std.specs.Prelude.{option_map, unwrap_or, if◌then◌else◌}
use Rattle.std.specs.List.{AllByRecursion, filter_map, cons_option, range_with_len, slice_get}
use Rattle.std.proofs.lemmas.List.{length-map, same_lists, get_or_default}
use Rattle.std.proofs.lemmas.List.Elements.{All-nil, All-cons, All-tail, recursion_from_All}
use Rattle.std.proofs.lemmas.List.FromFn.{length-range_with_len, get_or-range_with_len, get_or-map-range_with_len}
use Rattle.std.proofs.lemmas.Option.{slice_get-get_or}
use Rattle.pp_base.specs.Front.{IsFront}
use Rattle.pp_model.specs.declared.frame.Frame.{Frame}
use Rattle.pp_model.specs.declared.profile.Label.{Label}
use Rattle.pp_model.specs.declared.profile.Line.{Line}
use Rattle.pp_model.specs.declared.profile.Location.{Location}
use Rattle.pp_model.specs.declared.profile.Sample.{Sample}
use Rattle.pp_model.specs.declared.profile.Profile.{Profile}
use Rattle.pp_model.specs.declared.filtering.Filtering.{Filtering}
use Rattle.pp_model.specs.Conditions.{no_location, location_at, RefersTo}
use Rattle.pp_model.specs.Lookup.{text_of, location_with}
use Rattle.pp_model.specs.Frames.{row_frame, rows, frames_from, stack_of}
use Rattle.pp_model.specs.FrameTexts.{written, written_at}
use Rattle.pp_model.specs.Rules.{NoRuleFails, AreNumbered, location_ids}
use Rattle.pp_model.proofs.CompactLemmas.{find_numbered, one_le_id, place_within}
use Rattle.pp_model.proofs.FrameLemmas.{frames_written}
use Rattle.pp_model.proofs.RuleLemmas.{refers_from_valid, sample_at}
use Rattle.pp_stack.specs.Filters.{filtered}
use Rattle.pp_tags.specs.TagFilters.{filter_in_force, is_tag_kept, shown_labels}
use Rattle.pp_count.specs.Seeing.{filtered_stack}
use Rattle.pp_share.specs.Described.{label_text}
use Rattle.pp_restack.specs.Places.{AreEntries, IsWithin, entry_in, without_id}
use Rattle.pp_restack.specs.Stacks.{by_place, lines_of_frames, cut_location}
use Rattle.pp_dump.specs.Stacks.{location_place, whole_place, left_place, whole_stack, left_stack, whole_stacks, left_stacks}
use Rattle.pp_model.specs.Finders.{no_finders}
use Rattle.pp_restack.proofs.Grouping.{alone, joined}
use Rattle.pp_restack.proofs.Placing.{entries_still, all_within_still}
use Rattle.pp_dump.proofs.StackGroups.{rows_place, places_from}

-- the frames of one place that stand before those of other places
one_group : (place : ℕ) (f : Frame) (more rest : List Frame) → f.place ≡ place → AllByRecursion (λ g. g.place ≡ place) more → AllByRecursion (λ g. place + 1 ≤ g.place) rest
    → by_place (f ∷ (more ++ rest)) ≡ (f ∷ more) ∷ by_place rest
one_group place f [] [] here all above = refl
one_group place f [] (g ∷ rest) here all above = alone f g rest (λ same. absurd (omega (arith, here, same, above.0)))
one_group place f (g ∷ more) rest here all above = joined f g (more ++ rest) more (by_place rest) (here ∙ sym all.0) (one_group place g more rest all.0 all.1 above)

-- the lines at all places of a list
all_lines : (lines : List Line) (d : Line) → map (λ r. get_or lines r d) (range_with_len 0 (length lines)) ≡ lines
all_lines lines d =
    let read : ℕ → Line = λ r. get_or lines r d in
    same_lists (map read (range_with_len 0 (length lines))) lines (length-map (range_with_len 0 (length lines)) read ∙ length-range_with_len 0 (length lines))
    (λ k e within.
    let below : k < length lines = omega (arith, within, length-map (range_with_len 0 (length lines)) read, length-range_with_len 0 (length lines)) in
    get_or-map-range_with_len read 0 (length lines) k k e below (omega arith) ∙ get_or_default lines k d e below)

-- without tagshow and taghide all labels are shown
pub all_shown : (p : Profile) (labels : List Label) → shown_labels p no_finders labels ≡ labels
all_shown p [] = refl
all_shown p (label ∷ labels) = ap (λ rest. label ∷ rest) (all_shown p labels)

-- the stack filters leave any stack whole
none_cut : (p : Profile) (stack : List Frame) → filtered (written p) no_finders stack ≡ Some stack
none_cut p [] = refl
none_cut p (f ∷ stack) = refl

module _ (p : Profile) where
  -- the lines of frames that are read by their rows
  lines_read : (place location : ℕ) (lines : List Line) (d : Line) → (location_at p location).line ≡ lines → (ns : List ℕ) → AllByRecursion (λ n. n < length lines) ns
      → lines_of_frames p (map (row_frame place location) ns) ≡ map (λ r. get_or lines r d) ns
  lines_read place location lines d is [] all = refl
  lines_read place location lines d is (n ∷ ns) all =
      (λ i. cons_option ((ap (λ ls. slice_get ls n) is ∙ slice_get-get_or lines n d all.0) i) (lines_read place location lines d is ns all.1 i))

  -- the location of its rows is the location itself
  rows_located : (place location : ℕ) (lines : List Line) → (location_at p location).line ≡ lines → cut_location p (rows place location lines) ≡ location_at p location
  rows_located place location [] is = ap (λ ls. record (location_at p location) { line = ls }) (sym is)
  rows_located place location (line ∷ lines) is =
      let all : List Line = line ∷ lines in
      let numbers : List ℕ = range_with_len 0 (length all) in
      let below : AllByRecursion (λ n. n < length all) numbers =
      recursion_from_All (λ n. n < length all) numbers (λ k e within. let here : k < length all = omega (arith, within, length-range_with_len 0 (length all)) in
      omega (arith, here, get_or-range_with_len 0 (length all) k e here)) in
      ap (λ ls. record (location_at p location) { line = ls }) (lines_read place location all line is numbers below ∙ all_lines all line ∙ sym is)

  -- the frames of the first id are the first group
  first_group : (place id : ℕ) (ids : List ℕ)
      → by_place (frames_from p place (id ∷ ids)) ≡ rows place (id - 1) (location_at p (id - 1)).line ∷ by_place (frames_from p (place + 1) ids)
  first_group place id ids =
      grouped (rows place (id - 1) (location_at p (id - 1)).line) (rows_some (location_at p (id - 1)).line) (rows_place p place (id - 1) (location_at p (id - 1)).line)
    where
      rows_some : (lines : List Line) → 0 < length (rows place (id - 1) lines)
      rows_some [] = omega arith
      rows_some (line ∷ lines) = omega (arith, length-map (range_with_len 0 (length (line ∷ lines))) (row_frame place (id - 1)), length-range_with_len 0 (length (line ∷ lines)))

      grouped : (frames : List Frame) → 0 < length frames → AllByRecursion (λ f. f.place ≡ place) frames
          → by_place (frames ++ frames_from p (place + 1) ids) ≡ frames ∷ by_place (frames_from p (place + 1) ids)
      grouped [] some all = absurd (omega (arith, some))
      grouped (f ∷ more) some all = one_group place f more (frames_from p (place + 1) ids) all.0 all.1 (places_from p (place + 1) ids)

  -- the locations of the groups of ids are those of the ids
  pub groups_located : (place : ℕ) (ids : List ℕ) → map (cut_location p) (by_place (frames_from p place ids)) ≡ map (λ id. location_at p (id - 1)) ids
  groups_located place [] = refl
  groups_located place (id ∷ ids) =
      ap (map (cut_location p)) (first_group place id ids)
      ∙ (λ i. rows_located place (id - 1) (location_at p (id - 1)).line refl i ∷ groups_located (place + 1) ids i)

  -- and their entries are these with no id
  entries_read : (ids : List ℕ) → map (entry_in p.location) ids ≡ map without_id (map (λ id. location_at p (id - 1)) ids)
  entries_read [] = refl
  entries_read (id ∷ ids) = ap (λ rest. without_id (location_at p (id - 1)) ∷ rest) (entries_read ids)

  module _ (numbered : AreNumbered (location_ids p)) where
    -- the place of an id
    place_whole : (place id : ℕ) → Contains (location_ids p) id → left_place p (rows place (id - 1) (location_at p (id - 1)).line) ≡ whole_place p id
    place_whole place id inside =
        let lines : List Line = (location_at p (id - 1)).line in
        let within : id - 1 < length p.location = omega (arith, place_within (location_ids p) id numbered inside, length-map p.location (λ (l : Location). l.id)) in
        let found : location_with p id ≡ Some (location_at p (id - 1)) =
        find_numbered (λ (l : Location). l.id) p.location (id - 1) id no_location numbered within (omega (arith, one_le_id (location_ids p) id numbered inside)) in
        let frames : map (written p) (rows place (id - 1) lines) ≡ written_at p id =
        ap (map (written p)) (sym (append-nil (rows place (id - 1) lines)))
        ∙ frames_written p place (id ∷ []) numbered (All-cons (Contains (location_ids p)) id [] inside (All-nil (Contains (location_ids p))))
        ∙ append-nil (written_at p id) in
        (λ i. location_place p (rows_located place (id - 1) lines refl i) (frames i))
        ∙ ap (λ (o : Option Location). location_place p (unwrap_or o no_location) (written_at p id)) (sym found)

    -- the places of ids, one group each
    places_whole : (place : ℕ) (ids : List ℕ) → All (Contains (location_ids p)) ids → map (left_place p) (by_place (frames_from p place ids)) ≡ map (whole_place p) ids
    places_whole place [] inside = refl
    places_whole place (id ∷ ids) inside =
        ap (map (left_place p)) (first_group place id ids)
        ∙ (λ i. place_whole place id (inside 0 0 (omega arith)) i ∷ places_whole (place + 1) ids (All-tail (Contains (location_ids p)) id ids inside) i)

    -- the ids of a sample are those of locations of the profile
    ids_within : (ids : List ℕ) → All (Contains (location_ids p)) ids → AllByRecursion (IsWithin p.location) ids
    ids_within ids inside =
        recursion_from_All (IsWithin p.location) ids
        (λ k d below.
        let id : ℕ = get_or ids k d in
        let one : 1 ≤ id = one_le_id (location_ids p) id numbered (inside k d below) in
        let within = place_within (location_ids p) id numbered (inside k d below) in
        record { positive = one; within = omega (arith, one, within, length-map p.location (λ (l : Location). l.id)) })

    -- Where the locations of the profile stand first, a sample's ids are those of the locations of its whole stack.
    pub whole_entries : (s : Sample) (locations : List Location) → RefersTo p s → IsFront p.location locations
        → AreEntries locations (map (cut_location p) (by_place (stack_of p s))) s.location_id
    whole_entries s locations refers front =
        let own = ids_within s.location_id refers in
        record {
          within = all_within_still p.location locations front s.location_id own;
          same =
              entries_still p.location locations front s.location_id own ∙ entries_read s.location_id
              ∙ ap (map without_id) (sym (groups_located 0 s.location_id));
        }

    module _ (filtering : Filtering) (tagfocus : filtering.tagfocus ≡ []) (tagignore : filtering.tagignore ≡ []) where
      -- what is left of a sample is its stack
      pub none_dropped : (s : Sample) → filtered_stack p no_finders filtering s ≡ Some (stack_of p s)
      none_dropped s =
          (λ i. if is_tag_kept p (filter_in_force (tagfocus i)) (filter_in_force (tagignore i)) no_finders s then filtered (written p) no_finders (stack_of p s) else None)
          ∙ none_cut p (stack_of p s)

      one_whole : (s : Sample) → RefersTo p s → option_map (left_stack p no_finders s) (filtered_stack p no_finders filtering s) ≡ Some (whole_stack p s)
      one_whole s refers =
          ap (option_map (left_stack p no_finders s)) (none_dropped s)
          ∙ (λ i. Some (record { places = places_whole 0 s.location_id refers i; labels = map (label_text (text_of p)) (all_shown p s.label i) }, s.value))

      all_whole : (xs : List Sample) → AllByRecursion (RefersTo p) xs → filter_map (λ s. option_map (left_stack p no_finders s) (filtered_stack p no_finders filtering s)) xs ≡ map (whole_stack p) xs
      all_whole [] all = refl
      all_whole (s ∷ xs) all = (λ i. cons_option (one_whole s all.0 i) (all_whole xs all.1 i))

      -- The stacks of all samples.
      pub whole_left : NoRuleFails p → left_stacks p no_finders filtering ≡ whole_stacks p
      whole_left valid = all_whole p.sample (recursion_from_All (RefersTo p) p.sample (λ k d within. refers_from_valid p (get_or p.sample k d) valid (sample_at p k d within)))
