-- Fronts of paths.
use Rattle.std.proofs.Common.{◌≡◌, ◌≢◌, ℕ, ◌==◌, true, false, cond, List, [], ◌∷◌, ◌++◌, Option, Some, None, Bor, length, drop, get_or, map, ◌+◌, ◌<◌, refl, sym, ap, ◌∙◌, arith}
use Rattle.std.specs.Prelude.{MatchOption}
use Rattle.std.proofs.lemmas.Bool.{eq-eqb, eqb-true}
use Rattle.std.proofs.lemmas.List.{at_drop_more}
use Rattle.std.specs.Option.{option_and_then, option_copied, option_or}
use Rattle.pp_source.specs.Paths.{after_front, in_folder, without_folder, in_each_folder}

-- what stands after a front
pub after_found : (front rest : List ℕ) → after_front front (front ++ rest) ≡ Some rest
after_found [] rest = refl
after_found (a ∷ front) rest = ap (λ b. cond b (after_front front (front ++ rest)) None) (eq-eqb a a refl) ∙ after_found front rest

-- a text that doesn't begin so
pub after_none : (front text : List ℕ) → ((rest : List ℕ) → text ≢ front ++ rest) → after_front front text ≡ None
after_none [] text never = absurd (never text refl)
after_none (a ∷ front) [] never = refl
after_none (a ∷ front) (b ∷ text) never =
    elim (a == b) as (λ e. (a == b) ≡ e → cond e (after_front front text) None ≡ None) [
      | true ↦ λ same. after_none front text (λ rest is. never rest (λ i. sym (eqb-true a b same) i ∷ is i))
      | false ↦ λ other. refl
    ] refl

-- a front in two parts
pub after_both : (first second text : List ℕ) → after_front (first ++ second) text ≡ option_and_then (after_front second) (after_front first text)
after_both [] second text = refl
after_both (a ∷ first) second [] = refl
after_both (a ∷ first) second (b ∷ text) =
    elim (a == b) as (λ e. cond e (after_front (first ++ second) text) None ≡ option_and_then (after_front second) (cond e (after_front first text) None)) [
      | true ↦ after_both first second text
      | false ↦ refl
    ]

-- a text that begins so
pub after_some : (front text rest : List ℕ) → text ≡ front ++ rest → after_front front text ≡ Some rest
after_some front text rest is = ap (after_front front) is ∙ after_found front rest

-- what is stripped off a text
pub stripped : (front text : List ℕ) (r : Option (Bor (List ℕ))) → MatchOption r ((rest : List ℕ) → text ≢ front ++ rest) (λ x. text ≡ front ++ x.now)
    → after_front front text ≡ option_copied r
stripped front text None never = after_none front text never
stripped front text (Some x) is = after_some front text x.now is

-- what the next folder leaves of a file, and else the others
pub trimmed_next : (file : List ℕ) (folders : List (Bor (List ℕ))) (i : ℕ) (folder : Bor (List ℕ)) → i < length folders → folder ≡ get_or folders i folder
    → without_folder file (map (λ (f : Bor (List ℕ)). f.now) (drop i folders))
    ≡ option_or (after_front (folder.now ++ 47 ∷ []) file) (without_folder file (map (λ (f : Bor (List ℕ)). f.now) (drop (i + 1) folders)))
trimmed_next file folders i folder within is =
    at_drop_more (λ (fs : List (Bor (List ℕ))). without_folder file (map (λ (f : Bor (List ℕ)). f.now) fs)) folders i folder within
    ∙ ap (λ (f : Bor (List ℕ)). option_or (after_front (f.now ++ 47 ∷ []) file) (without_folder file (map (λ (f : Bor (List ℕ)). f.now) (drop (i + 1) folders)))) (sym is)

-- the path in some folders
pub in_folders : (folders : List (Bor (List ℕ))) (path : List ℕ) (other : List (List ℕ)) → 0 < length folders
    → map (λ (f : Bor (List ℕ)). in_folder path f.now) folders ≡ in_each_folder (map (λ (f : Bor (List ℕ)). f.now) folders) path other
in_folders [] path other some = absurd (omega (arith, some))
in_folders (folder ∷ folders) path other some = each (folder ∷ folders) where
  each : (fs : List (Bor (List ℕ))) → map (λ (f : Bor (List ℕ)). in_folder path f.now) fs ≡ map (in_folder path) (map (λ (f : Bor (List ℕ)). f.now) fs)
  each [] = refl
  each (f ∷ fs) = ap (λ r. in_folder path f.now ∷ r) (each fs)
