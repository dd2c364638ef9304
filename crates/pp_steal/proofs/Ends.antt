-- Elements that come off an end of a list.
use Rattle.std.proofs.Common.{◌≡◌, ℕ, ◌+◌, ◌<◌, List, [], ◌∷◌, ◌++◌, length, get_or, take, drop, sym, ap, ◌∙◌, arith, add-one, add-zero}
use Rattle.std.proofs.Math.Seq.{take-suc, take-append_seam}
use Rattle.std.proofs.lemmas.List.{get_or-take, take-take, get_or-drop, drop-drop}
use Rattle.pp_steal.proofs.Each.{get_end}

module _ {T : Type 0} where
  -- the element that comes off the back of what is left
  pub last_off : (items all rest : List T) (w : T) (k at : ℕ) → items ≡ rest ++ w ∷ [] → items ≡ take k all → k ≡ at + 1 → length rest ≡ at → (w ≡ get_or all at w) × (rest ≡ take at all)
  last_off items all rest w k at split is more here =
      let e : rest ++ w ∷ [] ≡ take k all = sym split ∙ is in
      let lt : at < k = omega arith in (
        sym (get_end (λ (j : ℕ) (u : T). Unit {0}) rest w w) ∙ ap (λ (n : ℕ). get_or (rest ++ w ∷ []) n w) here ∙ ap (λ (l : List T). get_or l at w) e ∙ get_or-take k all at w lt,
        sym (take-append_seam rest (w ∷ [])) ∙ ap (λ (n : ℕ). take n (rest ++ w ∷ [])) here ∙ ap (take at) e ∙ take-take at k all (omega arith),
      )

  -- the element that comes off the front of what is left
  pub next_is : (all rest after : List T) (k : ℕ) (w : T) → rest ≡ drop k all → rest ≡ w ∷ after → w ≡ get_or all k w
  next_is all rest after k w e is = ap (λ (l : List T). get_or l 0 w) (sym is ∙ e) ∙ get_or-drop k all 0 w ∙ ap (λ (n : ℕ). get_or all n w) (add-zero k)

  -- what is left after it
  pub next_gone : (all rest after : List T) (k : ℕ) (w : T) → rest ≡ drop k all → rest ≡ w ∷ after → after ≡ drop (k + 1) all
  next_gone all rest after k w e is = ap (drop 1) (sym is ∙ e) ∙ drop-drop 1 k all

  pub take_more : (all : List T) (k : ℕ) (w : T) → k < length all → w ≡ get_or all k w → take (k + 1) all ≡ take k all ++ w ∷ []
  take_more all k w lt is = rw add-one (take-suc all k w lt) ∙ ap (λ (u : T). take k all ++ u ∷ []) (sym is)
