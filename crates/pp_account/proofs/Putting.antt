-- Texts of items that are put one after the other.
use Rattle.std.proofs.Common.{◌≡◌, ℕ, ◌+◌, ◌<◌, ◌≤◌, List, ◌++◌, length, drop, get_or, Result, Ok, Err, IfOk, sym, ap, ◌∙◌, append_assoc}
use Rattle.std.specs.List.{flat_map}
use Rattle.std.proofs.lemmas.List.{drop_more, drop_all, append-nil}

module _ {X : Type 0} (text : X → List ℕ) where
  -- the texts so far, and those that are left
  abbrev pub Putting : List X → List ℕ → ℕ → List ℕ → Type 0
  Putting items before i out = out ++ flat_map text (drop i items) ≡ before ++ flat_map text items

  pub putting_more : (items : List X) (before : List ℕ) (i : ℕ) (out new : List ℕ) (d : X) → i < length items
      → Putting items before i out → new ≡ out ++ text (get_or items i d) → Putting items before (i + 1) new
  putting_more items before i out new d within so_far e =
      let rest : List ℕ = flat_map text (drop (i + 1) items) in
      ap (λ o. o ++ rest) e ∙ append_assoc out (text (get_or items i d)) rest
      ∙ sym (ap (λ xs. out ++ flat_map text xs) (drop_more items i d within)) ∙ so_far

  pub putting_all : (items : List X) (before : List ℕ) (i : ℕ) (out : List ℕ) → length items ≤ i
      → Putting items before i out → out ≡ before ++ flat_map text items
  putting_all items before i out past so_far =
      sym (append-nil out) ∙ sym (ap (λ xs. out ++ flat_map text xs) (drop_all i items past)) ∙ so_far

-- five texts, the last of which may fail
pub joined_five : {T E : Type 0} (r : Result T E) (before first second third fourth all a b c d e : List ℕ) → first ≡ before ++ a → second ≡ first ++ b → third ≡ second ++ c → fourth ≡ third ++ d
    → IfOk r (λ _. all ≡ fourth ++ e) → IfOk r (λ _. all ≡ before ++ ((((a ++ b) ++ c) ++ d) ++ e))
joined_five (Err x) before first second third fourth all a b c d e p q s t h = tt
joined_five (Ok x) before first second third fourth all a b c d e p q s t h = rw (h, t, s, q, p) (simp append_assoc)
