-- Verdicts are masked one by one, and masked verdicts are those of the pattern without the empty text.
use Rattle.std.proofs.Common.{◌≡◌, ℕ, zero, suc, ◌+◌, ◌<◌, Bool, true, false, cond, List, [], ◌∷◌, length, map, get_or, take, set, arith, refl, sym, ap, subst, ◌∙◌}
use Rattle.std.proofs.lemmas.Bool.{cond-true, cond-false}
use Rattle.pp_pattern.specs.Masks.{masked}
use Rattle.pp_pattern.specs.Patterns.{finder}
use Rattle.pp_base.specs.Words.{is_empty_text}

-- either way of a choice, behind a first verdict
behind : (b v : Bool) (i : ℕ) (more here : List Bool) → more ≡ cond b (set here i false) here →
    v ∷ more ≡ cond b (set (v ∷ here) (suc i) false) (v ∷ here)
behind true v i more here is = ap (λ vs. v ∷ vs) is
behind false v i more here is = ap (λ vs. v ∷ vs) is

-- a choice between two lists that are the same
either : (b : Bool) (vs : List Bool) → vs ≡ cond b vs vs
either true vs = refl
either false vs = refl

-- one more is masked
masked_suc : (subjects : List (List ℕ)) (found : List Bool) (i : ℕ) (d : List ℕ) → i < length subjects →
    masked (take (suc i) subjects) found
    ≡ cond (is_empty_text (get_or subjects i d)) (set (masked (take i subjects) found) i false) (masked (take i subjects) found)
masked_suc [] found i d within = absurd (omega (arith, within))
masked_suc (subject ∷ subjects) [] zero d within = either (is_empty_text subject) []
masked_suc ([] ∷ subjects) (v ∷ found) zero d within = refl
masked_suc ((b ∷ bs) ∷ subjects) (v ∷ found) zero d within = refl
masked_suc (subject ∷ subjects) [] (suc i) d within = either (is_empty_text (get_or subjects i d)) []
masked_suc (subject ∷ subjects) (v ∷ found) (suc i) d within =
    behind (is_empty_text (get_or subjects i d)) _ i _ _ (masked_suc subjects found i d (omega (arith, within)))

masked_more : (subjects : List (List ℕ)) (found : List Bool) (i : ℕ) (d : List ℕ) → i < length subjects →
    masked (take (i + 1) subjects) found
    ≡ cond (is_empty_text (get_or subjects i d)) (set (masked (take i subjects) found) i false) (masked (take i subjects) found)
masked_more subjects found i d within =
    let next : suc i ≡ i + 1 = omega arith in
    subst (λ n. masked (take n subjects) found ≡ cond (is_empty_text (get_or subjects i d)) (set (masked (take i subjects) found) i false) (masked (take i subjects) found))
    next (masked_suc subjects found i d within)

-- a text of no bytes is empty, and another isn't
empty_from_length : (text : List ℕ) → length text ≡ 0 → is_empty_text text ≡ true
empty_from_length [] none = refl
empty_from_length (b ∷ bs) none = absurd (omega (arith, none))

full_from_length : (text : List ℕ) → (length text ≡ 0 → ⊥) → is_empty_text text ≡ false
full_from_length [] some = absurd (some refl)
full_from_length (b ∷ bs) some = refl

-- a verdict on an empty subject is cleared
pub mask_clears : (subjects : List (List ℕ)) (found here now : List Bool) (i : ℕ) (text : List ℕ) → i < length subjects → text ≡ get_or subjects i text →
    length text ≡ 0 → here ≡ masked (take i subjects) found → now ≡ set here i false → now ≡ masked (take (i + 1) subjects) found
mask_clears subjects found here now i text within is none so_far cleared =
    cleared ∙ ap (λ vs. set vs i false) so_far
    ∙ sym (masked_more subjects found i text within ∙ cond-true _ _ _ (ap is_empty_text (sym is) ∙ empty_from_length text none))

-- another is kept
pub mask_keeps : (subjects : List (List ℕ)) (found here now : List Bool) (i : ℕ) (text : List ℕ) → i < length subjects → text ≡ get_or subjects i text →
    (length text ≡ 0 → ⊥) → here ≡ masked (take i subjects) found → now ≡ here → now ≡ masked (take (i + 1) subjects) found
mask_keeps subjects found here now i text within is some so_far kept =
    kept ∙ so_far ∙ sym (masked_more subjects found i text within ∙ cond-false _ _ _ (ap is_empty_text (sym is) ∙ full_from_length text some))

-- what is masked of a matcher's verdicts is what the pattern finds
pub masked_finds : (finds : List ℕ → List ℕ → Bool) (pattern : List ℕ) (subjects : List (List ℕ)) →
    masked subjects (map (finds pattern) subjects) ≡ map (finder finds pattern) subjects
masked_finds finds pattern [] = refl
masked_finds finds pattern (subject ∷ subjects) = ap (λ vs. finder finds pattern subject ∷ vs) (masked_finds finds pattern subjects)
