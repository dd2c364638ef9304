-- How rows of key numbers grow with the names.
use Rattle.std.proofs.Common.{◌≡◌, ℕ, ◌+◌, ◌<◌, Bool, true, false, cond, List, [], ◌∷◌, ◌++◌, length, take, map, get_or, All, Some, refl, sym, ap, subst, ◌∙◌, ⊎_elim, append_assoc, arith, length-append}
use Rattle.std.proofs.lemmas.Bool.{cases_lt}
use Rattle.std.proofs.Math.Seq.{get_or-append_seam}
use Rattle.std.specs.List.{slice_get}
use Rattle.std.proofs.lemmas.List.{append-nil, map-append, take_more, get_or_append_left}
use Rattle.std.proofs.lemmas.List.Elements.{All-push, All-head, All-tail, All-weaker}
use Rattle.std.proofs.lemmas.Option.{get_or_from_slice_get, slice_get_within}
use Rattle.pp_model.specs.declared.grouping.Grain.{Grain}
use Rattle.pp_model.specs.declared.frame.Frame.{Frame}
use Rattle.pp_model.specs.declared.profile.Profile.{Profile}
use Rattle.pp_model.specs.FrameTexts.{Written, written}
use Rattle.pp_grain.specs.declared.key.Key.{Key}
use Rattle.pp_grain.specs.Keys.{key_texts, key_written, IsKeyOf}
use Rattle.pp_grain.specs.Sight.{with_key}
use Rattle.pp_count.specs.Table.{no_key, written_key, IsNumbered, IsRow, Grown, frames_at}

module _ (grain : Grain) (showcolumns : Bool) (p : Profile) where
  pub grown_none : (names : List Key) → Grown p names names
  grown_none names = record { front = ([], sym (append-nil names)); keys = λ k. k }

  pub grown_more : (a b c : List Key) → Grown p a b → Grown p b c → Grown p a c
  grown_more a b c g h = record {
    front = (g.front.0 ++ h.front.0, h.front.1 ∙ ap (λ names. names ++ h.front.0) g.front.1 ∙ append_assoc a g.front.0 h.front.0);
    keys = λ k. h.keys (g.keys k);
  }

  -- a key that is seen, known or new
  grown_seen : (names : List Key) (key : Key) (b : Bool) → IsKeyOf p key → Grown p names (cond b names (names ++ key ∷ []))
  grown_seen names key true of_profile = grown_none names
  grown_seen names key false of_profile = record { front = (key ∷ [], refl); keys = λ k. All-push (IsKeyOf p) names key k of_profile }

  -- a number stands for the same key afterwards
  pub same_written : (a b : List Key) (n : ℕ) → Grown p a b → n < length a → written_key p b n ≡ written_key p a n
  same_written a b n g below = ap (key_written p) (ap (λ names. get_or names n no_key) g.front.1 ∙ get_or_append_left a g.front.0 no_key n below)

  same_row : (a b : List Key) (row : List ℕ) → Grown p a b → All (λ n. n < length a) row → map (written_key p b) row ≡ map (written_key p a) row
  same_row a b [] g below = refl
  same_row a b (n ∷ row) g below = λ i. same_written a b n g (All-head (λ m. m < length a) n row below) i ∷ same_row a b row g (All-tail (λ m. m < length a) n row below) i

  longer : (a b : List Key) → Grown p a b → (n : ℕ) → n < length a → n < length b
  longer a b g n below = omega (arith, ap length g.front.1, length-append a g.front.0)

  pub numbered_kept : (a b : List Key) (frames : List Written) (row : List ℕ) → Grown p a b → IsNumbered grain showcolumns p a frames row → IsNumbered grain showcolumns p b frames row
  numbered_kept a b frames row g is = record {
    keys = same_row a b row g is.below ∙ is.keys;
    below = All-weaker (λ n. n < length a) (λ n. n < length b) (longer a b g) row is.below;
  }

  -- one more frame, whose key has the number
  numbered_more : (names : List Key) (frames : List Written) (f : Written) (row : List ℕ) (n : ℕ) (key : Key)
      → IsNumbered grain showcolumns p names frames row → slice_get names n ≡ Some key → key_written p key ≡ key_texts grain showcolumns f
      → IsNumbered grain showcolumns p names (frames ++ f ∷ []) (row ++ n ∷ [])
  numbered_more names frames f row n key is found texts = record {
    keys =
        map-append (written_key p names) row (n ∷ [])
        ∙ (λ i. is.keys i ++ (ap (key_written p) (get_or_from_slice_get names n key no_key found) ∙ texts) i ∷ [])
        ∙ sym (map-append (key_texts grain showcolumns) frames (f ∷ []));
    below = All-push (λ m. m < length names) row n is.below (slice_get_within names n key found);
  }

  -- The frames so far have their numbers, and the names before them too.
  pub record Numbering (old new : List Key) (frames : List Written) (row : List ℕ) : Type 0 where
    pub grown : Grown p old new
    pub numbered : IsNumbered grain showcolumns p new frames row

  pub numbering_none : (names : List Key) → Numbering names names [] []
  numbering_none names = record { grown = grown_none names; numbered = record { keys = refl; below = λ k d below. absurd (omega arith) } }

  pub numbering_more : (old names new : List Key) (stack : List Frame) (i : ℕ) (d : Frame) (row : List ℕ) (n : ℕ) (key : Key)
      → Numbering old names (map (written p) (take i stack)) row → i < length stack
      → IsKeyOf p key → key_written p key ≡ key_texts grain showcolumns (written p (get_or stack i d))
      → slice_get new n ≡ Some key → new ≡ with_key names key
      → Numbering old new (map (written p) (take (i + 1) stack)) (row ++ n ∷ [])
  numbering_more old names new stack i d row n key so_far here of_profile texts found seen =
      let step : Grown p names new = subst (λ (m : List Key). Grown p names m) (sym seen) (grown_seen names key _ of_profile) in
      let frames : map (written p) (take (i + 1) stack) ≡ map (written p) (take i stack) ++ written p (get_or stack i d) ∷ [] =
      ap (map (written p)) (take_more stack i d here) ∙ map-append (written p) (take i stack) (get_or stack i d ∷ []) in
      record {
        grown = grown_more old names new so_far.grown step;
        numbered = subst (λ (fs : List Written). IsNumbered grain showcolumns p new fs (row ++ n ∷ [])) (sym frames)
            (numbered_more new (map (written p) (take i stack)) (written p (get_or stack i d)) row n key (numbered_kept names new _ row step so_far.numbered) found texts);
      }

  -- The first rows are there, and the names at the start have kept their numbers.
  pub record RowsTo (start names : List Key) (rows : List (List ℕ)) (k : ℕ) : Type 0 where
    pub count : length rows ≡ k
    pub each : (j : ℕ) → j < k → IsRow grain showcolumns p names j (get_or rows j [])
    pub grown : Grown p start names

  pub rows_more : (start names new : List Key) (rows : List (List ℕ)) (k : ℕ) (row : List ℕ) → RowsTo start names rows k → Grown p names new
      → IsRow grain showcolumns p new k row → RowsTo start new (rows ++ row ∷ []) (k + 1)
  rows_more start names new rows k row so_far g here = record {
    count = omega (arith, length-append rows (row ∷ []), so_far.count);
    each = λ j below. ⊎_elim
        (λ before. subst (λ (r : List ℕ). IsRow grain showcolumns p new j r) (sym (get_or_append_left rows (row ∷ []) [] j (omega (arith, so_far.count))))
        (numbered_kept names new (frames_at p j) (get_or rows j []) g (so_far.each j before)))
        (λ last.
        let is_k : j ≡ k = omega arith in
        let at_end : get_or (rows ++ row ∷ []) j [] ≡ row = ap (λ m. get_or (rows ++ row ∷ []) m []) (is_k ∙ sym so_far.count) ∙ get_or-append_seam rows row [] [] in
        subst (λ (m : ℕ). IsRow grain showcolumns p new m (get_or (rows ++ row ∷ []) j [])) (sym is_k) (subst (λ (r : List ℕ). IsRow grain showcolumns p new k r) (sym at_end) here))
        (cases_lt j k);
    grown = grown_more start names new so_far.grown g;
  }
