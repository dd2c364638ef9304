-- Texts that are put one after the other.
use Rattle.std.proofs.Common.{◌≡◌, ℕ, ◌+◌, ◌<◌, ◌≤◌, List, ◌++◌, length, drop, get_or, Result, Ok, Err, IfOk, sym, ap, ◌∙◌, append_assoc}
use Rattle.std.specs.List.{flat_map}
use Rattle.std.proofs.lemmas.List.{drop_more, drop_all, append-nil}

-- the texts of numbers, so far and left
module _ (text : ℕ → List ℕ) where
  abbrev pub Putting : List ℕ → List ℕ → ℕ → List ℕ → Type 0
  Putting order before i out = out ++ flat_map text (drop i order) ≡ before ++ flat_map text order

  pub putting_more : (order before : List ℕ) (i : ℕ) (out new : List ℕ) (d : ℕ) → i < length order
      → Putting order before i out → new ≡ out ++ text (get_or order i d) → Putting order before (i + 1) new
  putting_more order before i out new d within so_far e =
      let rest : List ℕ = flat_map text (drop (i + 1) order) in
      ap (λ o. o ++ rest) e ∙ append_assoc out (text (get_or order i d)) rest
      ∙ sym (ap (λ ns. out ++ flat_map text ns) (drop_more order i d within)) ∙ so_far

  pub putting_all : (order before : List ℕ) (i : ℕ) (out : List ℕ) → length order ≤ i
      → Putting order before i out → out ≡ before ++ flat_map text order
  putting_all order before i out past so_far =
      sym (append-nil out) ∙ sym (ap (λ ns. out ++ flat_map text ns) (drop_all i order past)) ∙ so_far

-- five texts, the last of which may fail
pub joined_five : {T E : Type 0} (r : Result T E) (before first second third fourth all a b c d e : List ℕ) → first ≡ before ++ a → second ≡ first ++ b → third ≡ second ++ c → fourth ≡ third ++ d
    → IfOk r (λ _. all ≡ fourth ++ e) → IfOk r (λ _. all ≡ before ++ ((((a ++ b) ++ c) ++ d) ++ e))
joined_five (Err x) before first second third fourth all a b c d e p q s t h = tt
joined_five (Ok x) before first second third fourth all a b c d e p q s t h = rw (h, t, s, q, p) (simp append_assoc)
