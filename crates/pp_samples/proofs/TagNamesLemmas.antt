-- Tags are told apart by what their names say.
use Rattle.std.proofs.Common.{◌≡◌, ◌+◌, Bool, true, false, cond, not, ◌||◌, List, [], ◌∷◌, ◌++◌, map, refl, ap, subst, ◌∙◌}
use Rattle.std.specs.Bool.{Decides}
use Rattle.std.specs.Cmp.{booleans_Decides}
use Rattle.std.specs.List.{list_any, position_or_len}
use Rattle.std.proofs.lemmas.Bool.{and_from}
use Rattle.std.proofs.lemmas.Bool.Decides.{Decides-int_eq}
use Rattle.std.proofs.lemmas.Slice.Eq.{bytes_eq-Decides}
use Rattle.std.proofs.lemmas.List.{map-append}
use Rattle.pp_model.specs.FirstSight.{seen_with}
use Rattle.pp_samples.specs.declared.tag_name.TagName.{TagName}
use Rattle.pp_samples.specs.TagLines.{TagTexts, same_tag}
use Rattle.pp_samples.specs.Names.{name_texts}
use Rattle.pp_samples.specs.TagHashes.{same_parts}

module _ (same : TagName → TagName → Bool) (tells : (a b : TagName) → same a b ≡ same_tag (name_texts a) (name_texts b)) where
  pub place_told : (x : TagName) (xs : List TagName) → position_or_len (same x) xs ≡ position_or_len (same_tag (name_texts x)) (map name_texts xs)
  place_told x [] = refl
  place_told x (y ∷ xs) = λ i. cond (not (tells x y i)) (1 + place_told x xs i) 0

  any_told : (x : TagName) (xs : List TagName) → list_any (same x) xs ≡ list_any (same_tag (name_texts x)) (map name_texts xs)
  any_told x [] = refl
  any_told x (y ∷ xs) = λ i. tells x y i || any_told x xs i

  pub seen_told : (x : TagName) (xs : List TagName)
      → map name_texts (cond (list_any (same x) xs) xs (xs ++ x ∷ [])) ≡ seen_with same_tag (map name_texts xs) (name_texts x)
  seen_told x xs = by (list_any (same x) xs) ∙ ap (λ (b : Bool). cond b (map name_texts xs) (map name_texts xs ++ name_texts x ∷ [])) (any_told x xs)
    where
      by : (b : Bool) → map name_texts (cond b xs (xs ++ x ∷ [])) ≡ cond b (map name_texts xs) (map name_texts xs ++ name_texts x ∷ [])
      by true = refl
      by false = map-append name_texts xs (x ∷ [])

-- tags with the same parts are the same
pub tag_decides : (a b : TagTexts) → Decides (same_tag a b) (a ≡ b)
tag_decides a b = (
  same_parts a b,
  λ is. subst (λ (c : TagTexts). same_tag a c ≡ true) is
      (and_from _ _ ((bytes_eq-Decides a.key a.key).1 refl)
      (and_from _ _ ((booleans_Decides a.is_number a.is_number).1 refl)
      (and_from _ _ ((bytes_eq-Decides a.text a.text).1 refl)
      (and_from _ _ ((Decides-int_eq a.num a.num).1 refl) ((bytes_eq-Decides a.unit a.unit).1 refl))))),
)
