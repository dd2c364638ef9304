-- A list of which a front has been changed, item by item.
use Rattle.std.proofs.Common.{◌≡◌, ℕ, zero, suc, ◌+◌, ◌<◌, ◌≤◌, List, [], ◌∷◌, ◌++◌, length, map, take, drop, set, slice_get, get_or, Some, refl, sym, ap, ◌∙◌, arith, length-append, length-drop}
use Rattle.std.proofs.lemmas.List.{length-map, length-take, append-nil, take_all, drop_all}
use Rattle.std.proofs.lemmas.Option.{none-some, same_Some, get_or_from_slice_get}

module _ {A : Type 0} (f : A → A) where
  -- the list with its first k items changed
  abbrev pub changed_front : List A → ℕ → List A
  changed_front xs k = map f (take k xs) ++ drop k xs

  pub length-changed_front : (xs : List A) (k : ℕ) → k ≤ length xs → length (changed_front xs k) ≡ length xs
  length-changed_front xs k within =
      omega (arith, length-append (map f (take k xs)) (drop k xs), length-map (take k xs) f, length-take k xs, length-drop k xs)

  -- an item behind the front is as it was
  pub front_kept : (xs : List A) (k : ℕ) (d : A) → k < length xs → get_or (changed_front xs k) k d ≡ get_or xs k d
  front_kept [] k d within = absurd (omega arith)
  front_kept (x ∷ xs) zero d within = refl
  front_kept (x ∷ xs) (suc k) d within = front_kept xs k d (omega arith)

  -- and so is the one that comes next
  pub item_kept : (xs items : List A) (k : ℕ) (x : A) → items ≡ changed_front xs k → slice_get items k ≡ Some x → k < length xs → x ≡ get_or xs k x
  item_kept xs items k x so_far at within =
      sym (get_or_from_slice_get items k x x at) ∙ ap (λ l. get_or l k x) so_far ∙ front_kept xs k x within

  step : (xs : List A) (k : ℕ) (x : A) → slice_get (changed_front xs k) k ≡ Some x → set (changed_front xs k) k (f x) ≡ changed_front xs (suc k)
  step [] zero x at = absurd (none-some x at)
  step [] (suc k) x at = absurd (none-some x at)
  step (y ∷ ys) zero x at = (λ j. f (sym (same_Some _ _ at) j) ∷ ys)
  step (y ∷ ys) (suc k) x at = (λ j. f y ∷ step ys k x at j)

  -- the item at the end of the front is changed
  pub change_next : (xs items now : List A) (k : ℕ) (x y : A) → items ≡ changed_front xs k → slice_get items k ≡ Some x → y ≡ f x → now ≡ set items k y
      → now ≡ changed_front xs (k + 1)
  change_next xs items now k x y so_far at is now_is =
      let next : suc k ≡ k + 1 = omega arith in
      now_is ∙ (λ j. set (so_far j) k (is j)) ∙ step xs k x (ap (λ l. slice_get l k) (sym so_far) ∙ at) ∙ ap (changed_front xs) next

  -- the whole list is changed
  pub changed_all : (xs items : List A) (k : ℕ) → items ≡ changed_front xs k → length items ≤ k → length xs ≤ k → items ≡ map f xs
  changed_all xs items k so_far past end =
      so_far ∙ (λ j. map f (take_all k xs end j) ++ drop_all k xs end j) ∙ append-nil (map f xs)
