-- A name and its place among the names that were met.
use Rattle.std.proofs.Common.{◌≡◌, ℕ, ◌<◌, Bool, true, false, cond, Vec, Global, List, [], ◌∷◌, ◌++◌, map, length, Contains, get_or, Some, option_map, sym, ap, ◌∙◌, arith}
use Rattle.std.specs.Prelude.{slice_get, position, bytes_eq}
use Rattle.std.specs.List.{list_any}
use Rattle.std.proofs.Math.Seq.{get_or-append_seam}
use Rattle.std.proofs.lemmas.List.{append-nil, map-append, length-append}
use Rattle.std.proofs.lemmas.List.Folds.{list_any_at}
use Rattle.std.proofs.lemmas.List.Quantifiers.{position-Some}
use Rattle.std.proofs.lemmas.Option.{none-some, slice_get-get_or, slice_get-map}
use Rattle.std.proofs.lemmas.Slice.Eq.{bytes_eq-Decides}
use Rattle.pp_stack.proofs.ToldLemmas.{list_any-map}
use Rattle.pp_pseudo.specs.Names.{IsNumberedName}

-- the bytes of a key
abbrev bytes_of : Vec ℕ Global → List ℕ
bytes_of key = key.items

-- a key that is found has its place
found_at : (keys : List (Vec ℕ Global)) (name : List ℕ) (n : ℕ) → position (λ (key : Vec ℕ Global). bytes_eq name key.items) keys ≡ Some n
    → slice_get (map bytes_of keys) n ≡ Some name
found_at [] name n is = absurd (none-some n is)
found_at (key ∷ keys) name n is =
    let at = position-Some (λ (key : Vec ℕ Global). bytes_eq name key.items) (key ∷ keys) n key is in
    slice_get-map bytes_of (key ∷ keys) n ∙ ap (option_map bytes_of) (slice_get-get_or (key ∷ keys) n key at.0)
    ∙ ap Some (sym ((bytes_eq-Decides name (get_or (key ∷ keys) n key).items).0 at.1))

-- A name that was met keeps its number.
pub known : (keys : List (Vec ℕ Global)) (names : List (List ℕ)) (name : List ℕ) (n : ℕ) → map bytes_of keys ≡ names
    → position (λ (key : Vec ℕ Global). bytes_eq name key.items) keys ≡ Some n → IsNumberedName names names name n
known keys names name n same is = record {
  front = ([], sym (append-nil names));
  named = ap (λ ns. slice_get ns n) (sym same) ∙ found_at keys name n is;
}

-- A name that is not found was not met.
pub met : (keys : List (Vec ℕ Global)) (names : List (List ℕ)) (name : List ℕ) → map bytes_of keys ≡ names
    → false ≡ list_any (λ (k : Vec ℕ Global). bytes_eq name k.items) keys → Contains names name → false ≡ true
met keys names name same absent (k, within, at) =
    absent ∙ sym (list_any-map bytes_of (bytes_eq name) keys) ∙ ap (list_any (bytes_eq name)) same
    ∙ list_any_at (bytes_eq name) names k name within ((bytes_eq-Decides name (get_or names k name)).1 (sym at))

-- A name that is new stands behind the others.
pub added : (old new : List (Vec ℕ Global)) (names : List (List ℕ)) (key : Vec ℕ Global) (name : List ℕ) (n : ℕ) → map bytes_of old ≡ names
    → new ≡ cond (list_any (λ (k : Vec ℕ Global). bytes_eq key.items k.items) old) old (old ++ key ∷ []) → key.items ≡ name
    → false ≡ list_any (λ (k : Vec ℕ Global). bytes_eq name k.items) old → n ≡ length names → IsNumberedName names (map bytes_of new) name n
added old new names key name n same is own absent last =
    let behind : new ≡ old ++ key ∷ [] =
    is ∙ ap (λ (bytes : List ℕ). cond (list_any (λ (k : Vec ℕ Global). bytes_eq bytes k.items) old) old (old ++ key ∷ [])) own
    ∙ ap (λ (there : Bool). cond there old (old ++ key ∷ [])) (sym absent) in
    let all : map bytes_of new ≡ names ++ name ∷ [] = ap (map bytes_of) behind ∙ map-append bytes_of old (key ∷ []) ∙ (λ i. same i ++ own i ∷ []) in
    let within : length names < length (names ++ name ∷ []) = omega (arith, length-append names (name ∷ [])) in
    record {
      front = (name ∷ [], all);
      named =
          ap (λ ns. slice_get ns n) all ∙ ap (slice_get (names ++ name ∷ [])) last ∙ slice_get-get_or (names ++ name ∷ []) (length names) name within
          ∙ ap Some (get_or-append_seam names name [] name);
    }
