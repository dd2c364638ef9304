-- A list that was read at a place.
use Rattle.std.proofs.Common.{◌≡◌, ℕ, ◌+◌, List, ◌∷◌, map, drop, All, Some, subst, ap, ◌∙◌}
use Rattle.std.specs.List.{slice_get}
use Rattle.std.proofs.lemmas.List.{drop_more}
use Rattle.std.proofs.lemmas.Option.{slice_get_within, get_or_from_slice_get, slice_get-map}
use Rattle.std.specs.Option.{option_map}

-- the items from the place on
pub drop_found : {A : Type 0} (xs : List A) (i : ℕ) (x : A) → slice_get xs i ≡ Some x → drop i xs ≡ x ∷ drop (i + 1) xs
drop_found xs i x found =
    drop_more xs i x (slice_get_within xs i x found) ∙ ap (λ y. y ∷ drop (i + 1) xs) (get_or_from_slice_get xs i x x found)

-- what holds of all items holds of it
pub at_found : {A : Type 0} (P : A → Type 0) (xs : List A) (i : ℕ) (x : A) → slice_get xs i ≡ Some x → All P xs → P x
at_found P xs i x found all = subst P (get_or_from_slice_get xs i x x found) (all i x (slice_get_within xs i x found))

-- read of what a function makes of each
pub found_mapped : {A B : Type 0} (f : A → B) (xs : List A) (i : ℕ) (x : A) → slice_get xs i ≡ Some x → slice_get (map f xs) i ≡ Some (f x)
found_mapped f xs i x found = slice_get-map f xs i ∙ ap (option_map f) found
