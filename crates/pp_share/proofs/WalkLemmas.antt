-- Walks over lists that are put together.
use Rattle.std.proofs.Common.{◌≡◌, ℕ, ◌+◌, ◌<◌, List, [], ◌∷◌, ◌++◌, length, take, get_or, sym, ap, ◌∙◌}
use Rattle.std.specs.List.{flat_map}
use Rattle.std.proofs.lemmas.Grind.{flat_map-append}
use Rattle.std.proofs.lemmas.List.{take_more, append-nil}
use Rattle.std.proofs.lemmas.List.Sums.{fold-append}
use Rattle.pp_share.specs.Walk.{met_with, met_after}

-- what is met after two lists
pub met_both : (met after last xs ys : List ℕ) → after ≡ met_after met xs → last ≡ met_after after ys → last ≡ met_after met (xs ++ ys)
met_both met after last xs ys first second =
    second ∙ ap (λ m. met_after m ys) first ∙ sym (fold-append met_with met xs ys)

-- what is met later, after these
pub met_later : (met now ids more : List ℕ) → now ≡ met_after met ids → met_after met (ids ++ more) ≡ met_after now more
met_later met now ids more is = fold-append met_with met ids more ∙ ap (λ m. met_after m more) (sym is)

-- one more item of a list
pub met_next : {A : Type 0} (refs : A → List ℕ) (items : List A) (i : ℕ) (x : A) (met now last : List ℕ) → i < length items → x ≡ get_or items i x
    → now ≡ met_after met (flat_map refs (take i items)) → last ≡ met_after now (refs x) → last ≡ met_after met (flat_map refs (take (i + 1) items))
met_next refs items i x met now last within at so_far step =
    met_both met now last (flat_map refs (take i items)) (refs x) so_far step
    ∙ ap (met_after met)
    (ap (λ l. flat_map refs (take i items) ++ l) (sym (append-nil (refs x)))
    ∙ sym (flat_map-append refs (take i items) (x ∷ []))
    ∙ ap (flat_map refs) (ap (λ y. take i items ++ y ∷ []) at ∙ sym (take_more items i x within)))
