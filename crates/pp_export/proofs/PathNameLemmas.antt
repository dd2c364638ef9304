-- The names of keys as they stand in paths, by key number.
use Rattle.std.proofs.Common.{◌≡◌, ◌≢◌, ℕ, ◌+◌, ◌<◌, ◌≤◌, List, ◌++◌, length, take, drop, inl, inr, sym, ap, subst, ◌∙◌, arith, length-append}
use Rattle.std.proofs.Math.Seq.{drop-append_seam}
use Rattle.std.proofs.lemmas.Bool.{cases_eq}
use Rattle.std.proofs.lemmas.List.{drop-append-le, length-drop, take-append-le, take_all}
use Rattle.pp_export.specs.declared.path_names.NamePlace.{NamePlace}
use Rattle.pp_export.specs.declared.path_names.PathNames.{PathNames}
use Rattle.pp_export.specs.PathNames.{at_place, name_and_separator, name_place, ArePathNames, GivesName, NameStandsAt}

-- what stands at a place stays there
kept : (text more : List ℕ) (place : NamePlace) → place.start + place.len ≤ length text → at_place (text ++ more) place ≡ at_place text place
kept text more place within =
    ap (take place.len) (drop-append-le place.start text more (omega (arith, within)))
    ∙ take-append-le place.len (drop place.start text) more (omega (arith, within, length-drop place.start text))

-- what is added stands at the end
added : (text more : List ℕ) (place : NamePlace) → place.start ≡ length text → place.len ≡ length more → at_place (text ++ more) place ≡ more
added text more place start len =
    (λ i. take (len i) (drop (start i) (text ++ more))) ∙ ap (take (length more)) (drop-append_seam text more) ∙ take_all (length more) more (omega arith)

-- a name that is made already
pub gives_old : (name : ℕ → List ℕ) (number : ℕ) (path_names : PathNames) (place : NamePlace) → place ≡ name_place path_names number → 0 < place.len → ArePathNames name path_names
    → GivesName name number path_names place
gives_old name number path_names place is some are = record {
  names = are;
  own = subst (λ (q : NamePlace). NameStandsAt path_names.text.items q (name_and_separator (name number))) (sym is) (are.made number (subst (λ (q : NamePlace). 0 < q.len) is some));
}

-- one more name is made
pub gives_new : (name : ℕ → List ℕ) (old new : PathNames) (number : ℕ) (place : NamePlace) (part : List ℕ) → new.text.items ≡ old.text.items ++ part
    → place.start ≡ length old.text.items → place.len ≡ length part → part ≡ name_and_separator (name number) → ArePathNames name old → name_place new number ≡ place
    → ((other : ℕ) → other ≢ number → name_place new other ≡ name_place old other) → GivesName name number new place
gives_new name old new number place part text start len is so_far own others = record { names = record { made = made }; own = here } where
  still : (other : NamePlace) (bytes : List ℕ) → NameStandsAt old.text.items other bytes → NameStandsAt new.text.items other bytes
  still other bytes stands = record {
    within = omega (arith, stands.within, ap length text, length-append old.text.items part);
    are = ap (λ t. at_place t other) text ∙ kept old.text.items part other stands.within ∙ stands.are;
  }

  here : NameStandsAt new.text.items place (name_and_separator (name number))
  here = record {
    within = omega (arith, start, len, ap length text, length-append old.text.items part);
    are = ap (λ t. at_place t place) text ∙ added old.text.items part place start len ∙ is;
  }

  made : (n : ℕ) → 0 < (name_place new n).len → NameStandsAt new.text.items (name_place new n) (name_and_separator (name n))
  made n some = elim (cases_eq n number) as (λ _. NameStandsAt new.text.items (name_place new n) (name_and_separator (name n))) [
    | inl same ↦
        subst (λ (q : NamePlace). NameStandsAt new.text.items q (name_and_separator (name n))) (sym (ap (name_place new) same ∙ own))
        (subst (λ m. NameStandsAt new.text.items place (name_and_separator (name m))) (sym same) here)
    | inr other ↦
        let same : name_place new n ≡ name_place old n = others n other in
        subst (λ (q : NamePlace). NameStandsAt new.text.items q (name_and_separator (name n))) (sym same)
        (still (name_place old n) (name_and_separator (name n)) (so_far.made n (subst (λ (q : NamePlace). 0 < q.len) same some)))
  ]
