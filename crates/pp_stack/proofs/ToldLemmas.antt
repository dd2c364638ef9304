-- The parts of a stack of frames stand for the same parts of the stack of what the frames stand for.
use Rattle.std.proofs.Common.{◌≡◌, ℕ, ◌-◌, ◌+◌, Bool, true, false, not, cond, List, [], ◌∷◌, ◌++◌, map, take, drop, refl, sym, ap, ap₂, ◌∙◌}
use Rattle.std.specs.Prelude.{◌==◌, ◌||◌, nat_lt, filter, position, reverse, Option, Some, None, option_map}
use Rattle.std.specs.List.{list_any, prefix_len}
use Rattle.std.specs.Option.{option_map_or}
use Rattle.std.proofs.lemmas.List.{reverse-append, map-append, length-map, take-map, drop-map}
use Rattle.pp_stack.specs.Runs.{through_last, up_to_last, from_first, pruned_frames}

module _ {X Y : Type 0} (told : X → Y) where
  -- what stands for the reversed items
  reverse-map : (xs : List X) → reverse (map told xs) ≡ map told (reverse xs)
  reverse-map [] = refl
  reverse-map (x ∷ xs) =
      reverse-append (told x ∷ []) (map told xs) ∙ ap (λ ys. ys ++ told x ∷ []) (reverse-map xs)
      ∙ sym (map-append told (reverse xs) (x ∷ [])) ∙ ap (map told) (sym (reverse-append (x ∷ []) xs))

  -- how many pass from the front on
  prefix_len-map : (test : Y → Bool) (xs : List X) → prefix_len test (map told xs) ≡ prefix_len (λ x. test (told x)) xs
  prefix_len-map test [] = refl
  prefix_len-map test (x ∷ xs) = ap (λ n. cond (test (told x)) (1 + n) 0) (prefix_len-map test xs)

  -- whether one passes
  pub list_any-map : (test : Y → Bool) (xs : List X) → list_any test (map told xs) ≡ list_any (λ x. test (told x)) xs
  list_any-map test [] = refl
  list_any-map test (x ∷ xs) = ap (λ b. test (told x) || b) (list_any-map test xs)

  -- one item more of a filter
  filter_one : (passes : Bool) (x : X) (xs : List X) (ys : List Y) → ys ≡ map told xs →
      cond passes (told x ∷ ys) ys ≡ map told (cond passes (x ∷ xs) xs)
  filter_one true x xs ys is = ap (λ zs. told x ∷ zs) is
  filter_one false x xs ys is = is

  -- those that pass
  pub filter-map : (test : Y → Bool) (xs : List X) → filter test (map told xs) ≡ map told (filter (λ x. test (told x)) xs)
  filter-map test [] = refl
  filter-map test (x ∷ xs) = filter_one (test (told x)) x _ _ (filter-map test xs)

  -- how many there are up to and with the last that passes
  pub through_last-map : (test : Y → Bool) (xs : List X) → through_last test (map told xs) ≡ through_last (λ x. test (told x)) xs
  through_last-map test xs =
      ap₂ (λ a b. a - b) (length-map xs told)
      (ap (prefix_len (λ y. not (test y))) (reverse-map xs) ∙ prefix_len-map (λ y. not (test y)) (reverse xs))

  -- the first that passes
  pub position-map : (test : Y → Bool) (xs : List X) → position test (map told xs) ≡ position (λ x. test (told x)) xs
  position-map test xs =
      ap₂ (λ n m. cond (nat_lt n m) (Some n) None) (prefix_len-map (λ y. not (test y)) xs) (length-map xs told)

  -- the first n items, where n counts those up to the last that passes
  up_to-map : (n : ℕ) (xs : List X) →
      cond (n == 0) None (Some (take n (map told xs))) ≡ option_map (map told) (cond (n == 0) None (Some (take n xs)))
  up_to-map n xs = by_test (n == 0)
    where
      by_test : (b : Bool) → cond b None (Some (take n (map told xs))) ≡ option_map (map told) (cond b None (Some (take n xs)))
      by_test true = refl
      by_test false = ap Some (take-map told n xs)

  pub up_to_last-map : (test : Y → Bool) (xs : List X) →
      up_to_last test (map told xs) ≡ option_map (map told) (up_to_last (λ x. test (told x)) xs)
  up_to_last-map test xs =
      ap (λ n. cond (n == 0) None (Some (take n (map told xs)))) (through_last-map test xs) ∙ up_to-map _ xs

  -- those from the first that passes
  from-map : (first : Option ℕ) (xs : List X) →
      option_map_or (λ n. drop n (map told xs)) first (map told xs) ≡ map told (option_map_or (λ n. drop n xs) first xs)
  from-map None xs = refl
  from-map (Some n) xs = drop-map told n xs

  pub from_first-map : (test : Y → Bool) (xs : List X) → from_first test (map told xs) ≡ map told (from_first (λ x. test (told x)) xs)
  from_first-map test xs =
      ap (λ first. option_map_or (λ n. drop n (map told xs)) first (map told xs)) (position-map test xs) ∙ from-map _ xs

  -- those that pruning leaves
  pub pruned-map : (prunable : Y → Bool) (xs : List X) → pruned_frames prunable (map told xs) ≡ map told (pruned_frames (λ x. prunable (told x)) xs)
  pruned-map prunable xs =
      ap (λ n. drop n (map told xs))
      (ap (λ n. through_last prunable (take n (map told xs))) (through_last-map (λ y. not (prunable y)) xs)
      ∙ ap (through_last prunable) (take-map told _ xs) ∙ through_last-map prunable _)
      ∙ drop-map told _ xs
