-- Lists that are numbered from 0, with one item more.
use Rattle.std.proofs.Common.{◌≡◌, ℕ, suc, ◌+◌, ◌<◌, ◌≤◌, List, [], ◌∷◌, ◌++◌, length, map, take, get_or, refl, sym, ap, ◌∙◌, arith, add-zero}
use Rattle.std.specs.List.{enumerate_from}
use Rattle.std.proofs.lemmas.List.{take_more, map_push, length-take, length-map}

module _ {A B : Type 0} (f : ℕ → A → B) where
  -- each item with its number, from n on
  abbrev pub numbered : ℕ → List A → List B
  numbered n xs = map (λ p. f p.0 p.1) (enumerate_from n xs)

  numbered_push : (n k : ℕ) (xs : List A) (x : A) → n + length xs ≡ k → numbered n (xs ++ x ∷ []) ≡ numbered n xs ++ f k x ∷ []
  numbered_push n k [] x is = let e : n ≡ k = omega arith in ap (λ j. f j x ∷ []) e
  numbered_push n k (y ∷ ys) x is = ap (λ l. f n y ∷ l) (numbered_push (n + 1) k ys x (omega arith))

  -- one item more of a list
  pub numbered_more : (xs : List A) (i : ℕ) (d : A) → i < length xs → numbered 0 (take (i + 1) xs) ≡ numbered 0 (take i xs) ++ f i (get_or xs i d) ∷ []
  numbered_more xs i d within =
      ap (numbered 0) (take_more xs i d within)
      ∙ numbered_push 0 i (take i xs) (get_or xs i d) (omega (arith, length-take i xs))

  -- one item more of a list whose items are seen otherwise
  pub numbered_seen : {Z : Type 0} (see : Z → A) (zs : List Z) (i : ℕ) (d : Z) → i < length zs
      → numbered 0 (map see (take (i + 1) zs)) ≡ numbered 0 (map see (take i zs)) ++ f i (see (get_or zs i d)) ∷ []
  numbered_seen see zs i d within =
      ap (λ l. numbered 0 (map see l)) (take_more zs i d within)
      ∙ ap (numbered 0) (map_push see (take i zs) (get_or zs i d))
      ∙ numbered_push 0 i (map see (take i zs)) (see (get_or zs i d)) (omega (arith, length-take i zs, length-map (take i zs) see))
