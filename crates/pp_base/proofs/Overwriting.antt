-- Entries after a write: the first of the path is overwritten, or one is added at the end.
use Rattle.std.proofs.Common.{◌≡◌, ◌++◌, ◌∷◌, [], ◌+◌, ◌<◌, ℕ, List, Some, None, Bool, true, false, cond, length, get_or, zero, suc, refl, sym, ap, ◌∙◌, arith}
use Rattle.std.specs.Prelude.{slice_set}
use Rattle.std.specs.Ordering.{nat_cmp, eq_by_cmp}
use Rattle.std.specs.Cmp.{eq_by_cmp_equiv}
use Rattle.std.specs.Cmp.Lexicographic.{slice_cmp, texts_ties, nat_list_cmp_total}
use Rattle.std.specs.FinMap.{get-from_entries, get-insert, same_map, from_entries_push, nat_cmp-IsAntisymmetric, slice_cmp-IsAntisymmetric}
use Rattle.std.specs.List.{position, position_from}
use Rattle.std.specs.Str.{bytes_eq}
use Rattle.std.proofs.lemmas.Bool.{true≢false}
use Rattle.std.proofs.lemmas.Iterator.Adapters.{position_from-zero}
use Rattle.std.proofs.lemmas.List.Quantifiers.{position-Some}
use Rattle.std.proofs.lemmas.Slice.Eq.{bytes_eq-Decides}
use Rattle.pp_base.specs.FileMap.{files_of, with_file}
use Rattle.pp_base.proofs.Scan.{scan}

-- an entry of the path
abbrev named : List ℕ → List ℕ × List ℕ → Bool
named path entry = bytes_eq path entry.0

-- as the order of paths tells it
abbrev same_path : List ℕ → List ℕ → Bool
same_path = eq_by_cmp (slice_cmp nat_cmp)

-- where no entry of the path was met, none is found
none_from : (entries : List (List ℕ × List ℕ)) (path : List ℕ) (at : ℕ) → position_from (named path) at entries ≡ None → scan path entries ≡ None
none_from [] path at none = refl
none_from (e ∷ es) path at none =
    elim (named path e) as (λ b. named path e ≡ b → cond b (Some at) (position_from (named path) (at + 1) es) ≡ None → scan path (e ∷ es) ≡ None) [
      | true ↦ λ _ is. absurd (cc is)
      | false ↦ λ b is. ap (λ t. cond t (Some e.1) (scan path es)) (sym (texts_ties path e.0) ∙ b) ∙ none_from es path (at + 1) is
    ] refl none

-- an entry of a new path at the end
pub pushed : (entries : List (List ℕ × List ℕ)) (path bytes : List ℕ) → position (λ entry. bytes_eq path entry.0) entries ≡ None
    → files_of (entries ++ (path, bytes) ∷ []) ≡ with_file (files_of entries) path bytes
pushed entries path bytes none =
    from_entries_push nat_list_cmp_total (slice_cmp-IsAntisymmetric nat_cmp-IsAntisymmetric) entries path bytes
    (none_from entries path 0 (sym (position_from-zero (named path) entries) ∙ none))

-- a choice made first or second, where the two exclude each other
choices : {A : Type 0} (a b : Bool) (x y z : A) → (b ≡ true → a ≡ false) → cond a x (cond b y z) ≡ cond b y (cond a x z)
choices true true x y z apart = absurd (true≢false (apart refl))
choices true false x y z apart = refl
choices false b x y z apart = refl

-- the second of two choices by one test does not count
first_choice : {A : Type 0} (a : Bool) (x y z : A) → cond a x z ≡ cond a x (cond a y z)
first_choice true x y z = refl
first_choice false x y z = refl

-- what is found after the first entry of the path was overwritten
scan_set : (entries : List (List ℕ × List ℕ)) (place : ℕ) (path bytes asked : List ℕ) (d : List ℕ × List ℕ) → place < length entries
    → named path (get_or entries place d) ≡ true → ((k : ℕ) → k < place → named path (get_or entries k d) ≡ false)
    → scan asked (slice_set entries place ((get_or entries place d).0, bytes)) ≡ cond (same_path asked path) (Some bytes) (scan asked entries)
scan_set [] place path bytes asked d within is first = absurd (omega arith)
scan_set (e ∷ es) zero path bytes asked d within is first =
    first_choice (same_path asked e.0) (Some bytes) (Some e.1) (scan asked es)
    ∙ ap (λ p. cond (same_path asked p) (Some bytes) (scan asked (e ∷ es))) (sym ((bytes_eq-Decides path e.0).0 is))
scan_set (e ∷ es) (suc place) path bytes asked d within is first =
    ap (cond (same_path asked e.0) (Some e.1)) (scan_set es place path bytes asked d (omega arith) is (λ k lt. first (suc k) (omega arith)))
    ∙ choices (same_path asked e.0) (same_path asked path) (Some e.1) (Some bytes) (scan asked es)
    (λ met. (eq_by_cmp_equiv nat_list_cmp_total).congr asked path e.0 met ∙ sym (texts_ties path e.0) ∙ first 0 (omega arith))

-- the first entry of the path, with other bytes in its place
pub overwritten : (entries : List (List ℕ × List ℕ)) (path bytes : List ℕ) (place : ℕ) (x : List ℕ × List ℕ)
    → position (λ entry. bytes_eq path entry.0) entries ≡ Some place → x ≡ get_or entries place x
    → files_of (slice_set entries place (x.0, bytes)) ≡ with_file (files_of entries) path bytes
overwritten entries path bytes place x found at =
    let there = position-Some (named path) entries place x found in
    same_map nat_list_cmp_total (slice_cmp-IsAntisymmetric nat_cmp-IsAntisymmetric) _ _ (λ asked.
    get-from_entries nat_list_cmp_total (slice_set entries place (x.0, bytes)) asked
    ∙ ap (λ (e : List ℕ × List ℕ). scan asked (slice_set entries place (e.0, bytes))) at
    ∙ scan_set entries place path bytes asked x there.0 there.1 there.2
    ∙ sym (get-insert nat_list_cmp_total (files_of entries) path bytes asked
    ∙ ap (cond (same_path asked path) (Some bytes)) (get-from_entries nat_list_cmp_total entries asked)))
