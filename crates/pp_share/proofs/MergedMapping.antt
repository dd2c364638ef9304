-- Own mappings are one exactly where they become equal ones.
use Rattle.std.proofs.Common.{◌≡◌, ℕ, ◌-◌, Bool, true, false, true≢false, List, [], ◌∷◌, find, Some, refl, sym, ap, subst, ◌∙◌, if◌then◌else◌}
use Rattle.std.specs.Bool.{Decides}
use Rattle.std.specs.Option.{unwrap_or}
use Rattle.std.specs.Cmp.{IsEquivalence}
use Rattle.std.proofs.lemmas.Bool.Decides.{Decides-and, Decides-like, Decides-eqb, same_from_decides}
use Rattle.std.proofs.lemmas.Slice.Eq.{bytes_eq-Decides}
use Rattle.pp_share.specs.Described.{MappingText}
use Rattle.pp_share.specs.Alike.{same_mapping, equal_mapping, identity, first_alike}
use Rattle.pp_share.proofs.Deciding.{mapping_decides}

-- what tells mappings apart
abbrev traits : MappingText → ℕ × (ℕ × List ℕ)
traits m = (m.limit - m.start, (m.offset, identity m))

same_decides : (a b : MappingText) → Decides (same_mapping a b) (traits a ≡ traits b)
same_decides a b =
    Decides-like (same_mapping a b) (λ p i. (p.0 i, (p.1.0 i, p.1.1 i))) (λ e. (ap (λ t. t.0) e, (ap (λ t. t.1.0) e, ap (λ t. t.1.1) e)))
    (Decides-and _ _ (Decides-eqb (a.limit - a.start) (b.limit - b.start)) (Decides-and _ _ (Decides-eqb a.offset b.offset) (bytes_eq-Decides (identity a) (identity b))))

pub mapping_laws : IsEquivalence same_mapping
mapping_laws = record {
  refl = λ x. (same_decides x x).1 refl;
  symm = λ x y. same_from_decides (same_mapping x y) (same_mapping y x) (same_decides x y) (Decides-like (same_mapping y x) sym sym (same_decides y x));
  congr = λ x y z h.
      let e = (same_decides x y).0 h in
      same_from_decides (same_mapping x z) (same_mapping y z) (same_decides x z) (Decides-like (same_mapping y z) (λ q. e ∙ q) (λ q. sym e ∙ q) (same_decides y z));
}

pub find_congr : (a b : MappingText) → same_mapping a b ≡ true → (all : List MappingText) → find (same_mapping a) all ≡ find (same_mapping b) all
find_congr a b is [] = refl
find_congr a b is (m ∷ ms) = (λ t. if mapping_laws.congr a b m is t then Some m else find_congr a b is ms t)

-- what a mapping becomes is one with it
alike_is : (all : List MappingText) (m : MappingText) → same_mapping m (first_alike all m) ≡ true
alike_is [] m = mapping_laws.refl m
alike_is (x ∷ xs) m = by (same_mapping m x) refl (alike_is xs m)
  where
    by : (b : Bool) → same_mapping m x ≡ b → same_mapping m (first_alike xs m) ≡ true → same_mapping m (unwrap_or (if b then Some x else find (same_mapping m) xs) m) ≡ true
    by true is rest = is
    by false is rest = rest

-- the mapping is among these, or one with it is
abbrev pub IsFound : List MappingText → MappingText → Type 0
IsFound all m = (x : MappingText) × (find (same_mapping m) all ≡ Some x)

pub alike_tells : (all : List MappingText) (a b : MappingText) → IsFound all a → equal_mapping (first_alike all a) (first_alike all b) ≡ same_mapping a b
alike_tells all a b found = by (same_mapping a b) refl
  where
    by : (c : Bool) → same_mapping a b ≡ c → equal_mapping (first_alike all a) (first_alike all b) ≡ c
    by true is =
        let one : first_alike all a ≡ first_alike all b =
        ap (λ o. unwrap_or o a) found.1 ∙ sym (ap (λ o. unwrap_or o b) (sym (find_congr a b is all) ∙ found.1)) in
        (mapping_decides (first_alike all a) (first_alike all b)).1 one
    by false is = no (equal_mapping (first_alike all a) (first_alike all b)) refl
      where
        no : (c : Bool) → equal_mapping (first_alike all a) (first_alike all b) ≡ c → c ≡ false
        no false e = refl
        no true e =
            let one = (mapping_decides (first_alike all a) (first_alike all b)).0 e in
            let both : same_mapping a (first_alike all b) ≡ true = subst (λ m. same_mapping a m ≡ true) one (alike_is all a) in
            absurd (true≢false (sym both ∙ mapping_laws.symm a (first_alike all b) ∙ sym (mapping_laws.congr b (first_alike all b) a (alike_is all b)) ∙ mapping_laws.symm b a ∙ is))
