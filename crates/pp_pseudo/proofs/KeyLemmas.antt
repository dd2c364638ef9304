-- The nonempty parts of a text that is cut at its first comma, and of one that has none.
use Rattle.std.proofs.Common.{◌≡◌, ℕ, Bool, true, false, not, cond, List, [], ◌∷◌, ◌++◌, filter, refl, sym, ap, ◌∙◌, append_assoc}
use Rattle.std.specs.List.{list_any, before_first, after_first, slice_split}
use Rattle.std.proofs.lemmas.List.{append-nil}
use Rattle.pp_stack.specs.Filters.{has_no_items}
use Rattle.pp_tags.specs.TagFilters.{is_comma}
use Rattle.pp_tags.proofs.SplitLemmas.{parts_more, parts_end}
use Rattle.pp_pseudo.specs.KeyList.{key_list}

-- a part that stays, or one that is empty
one_part : (empty : Bool) (keys rest : List (List ℕ)) (part : List ℕ)
    → cond empty keys (keys ++ part ∷ []) ++ rest ≡ keys ++ cond (not empty) (part ∷ rest) rest
one_part true keys rest part = refl
one_part false keys rest part = append_assoc keys (part ∷ []) rest

-- one part more
pub keys_more : (keys new whole : List (List ℕ)) (rest part after : List ℕ) → keys ++ key_list rest ≡ whole → true ≡ list_any is_comma rest
    → part ≡ before_first is_comma rest → after ≡ after_first is_comma rest → new ≡ cond (has_no_items part) keys (keys ++ part ∷ []) → new ++ key_list after ≡ whole
keys_more keys new whole rest part after so_far some before behind is =
    ap (λ ks. ks ++ key_list after) is ∙ one_part (has_no_items part) keys (key_list after) part
    ∙ ap (λ parts. keys ++ filter (λ p. not (has_no_items p)) parts)
    (parts_more is_comma [] (part ∷ []) (slice_split is_comma rest) rest part after refl some before behind refl)
    ∙ so_far

-- the last part
pub keys_end : (keys new whole : List (List ℕ)) (rest : List ℕ) → keys ++ key_list rest ≡ whole → false ≡ list_any is_comma rest
    → new ≡ cond (has_no_items rest) keys (keys ++ rest ∷ []) → new ≡ whole
keys_end keys new whole rest so_far none is =
    is ∙ sym (append-nil (cond (has_no_items rest) keys (keys ++ rest ∷ []))) ∙ one_part (has_no_items rest) keys [] rest
    ∙ ap (λ parts. keys ++ filter (λ p. not (has_no_items p)) parts) (parts_end is_comma [] (rest ∷ []) (slice_split is_comma rest) rest rest refl none refl refl)
    ∙ so_far
