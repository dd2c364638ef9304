-- Sums over lists that are parted by keys.
use Rattle.std.proofs.Common.{◌≡◌, ℕ, ◌+◌, Bool, true, false, true≢false, ◌||◌, List, [], ◌∷◌, ◌++◌, map, refl, sym, ap, ◌∙◌, subst, arith}
use Rattle.std.specs.Prelude.{ℤ, pos, ◌+ℤ◌, filter, if◌then◌else◌}
use Rattle.std.specs.Bool.{Decides}
use Rattle.std.specs.List.{AllByRecursion, IsDistinct, flat_map, list_any}
use Rattle.std.proofs.lemmas.Map.Keys.{IsDistinct-head, IsDistinct-tail}
use Rattle.std.proofs.Math.IntN.{+ℤ_idl, +ℤ_assoc, +ℤ_comm}
use Rattle.pp_base.proofs.Lists.{all_by}
use Rattle.pp_share.specs.Sums.{rows_of}
use Rattle.pp_share.proofs.DistinctLemmas.{deciding_laws}
use Rattle.pp_model.proofs.FirstSightLemmas.{IsSeen}

-- Numbers that are added, in any order.
pub record Adding (M : Type 0) : Type 0 where
  pub none : M
  pub plus : M → M → M
  pub left : (a : M) → plus none a ≡ a
  pub assoc : (a b c : M) → plus (plus a b) c ≡ plus a (plus b c)
  pub comm : (a b : M) → plus a b ≡ plus b a

module _ {M : Type 0} (m : Adding M) where
  -- the sum over a list
  abbrev pub total : {X : Type 0} → (X → M) → List X → M
  total f [] = m.none
  total f (x ∷ xs) = m.plus (f x) (total f xs)

  pub total-append : {X : Type 0} (f : X → M) (xs ys : List X) → total f (xs ++ ys) ≡ m.plus (total f xs) (total f ys)
  total-append f [] ys = sym (m.left (total f ys))
  total-append f (x ∷ xs) ys = ap (m.plus (f x)) (total-append f xs ys) ∙ sym (m.assoc (f x) (total f xs) (total f ys))

  pub total-flat_map : {X Y : Type 0} (f : Y → M) (g : X → List Y) (xs : List X) → total f (flat_map g xs) ≡ total (λ x. total f (g x)) xs
  total-flat_map f g [] = refl
  total-flat_map f g (x ∷ xs) = total-append f (g x) (flat_map g xs) ∙ ap (m.plus (total f (g x))) (total-flat_map f g xs)

  pub total-map : {X Y : Type 0} (f : Y → M) (g : X → Y) (xs : List X) → total f (map g xs) ≡ total (λ x. f (g x)) xs
  total-map f g [] = refl
  total-map f g (x ∷ xs) = ap (m.plus (f (g x))) (total-map f g xs)

  pub total_same : {X : Type 0} (f g : X → M) (xs : List X) → AllByRecursion (λ x. f x ≡ g x) xs → total f xs ≡ total g xs
  total_same f g [] all = refl
  total_same f g (x ∷ xs) all = (λ j. m.plus (all.0 j) (total_same f g xs all.1 j))

  total_none : {X : Type 0} (f : X → M) (xs : List X) → AllByRecursion (λ x. f x ≡ m.none) xs → total f xs ≡ m.none
  total_none f [] all = refl
  total_none f (x ∷ xs) all = ap (λ a. m.plus a (total f xs)) all.0 ∙ m.left (total f xs) ∙ total_none f xs all.1

  -- two sums as one
  total_plus : {X : Type 0} (f g : X → M) (xs : List X) → total (λ x. m.plus (f x) (g x)) xs ≡ m.plus (total f xs) (total g xs)
  total_plus f g [] = sym (m.left m.none)
  total_plus f g (x ∷ xs) =
      ap (m.plus (m.plus (f x) (g x))) (total_plus f g xs) ∙ m.assoc (f x) (g x) (m.plus (total f xs) (total g xs))
      ∙ ap (m.plus (f x)) (sym (m.assoc (g x) (total f xs) (total g xs)) ∙ ap (λ a. m.plus a (total g xs)) (m.comm (g x) (total f xs)) ∙ m.assoc (total f xs) (g x) (total g xs))
      ∙ sym (m.assoc (f x) (total f xs) (m.plus (g x) (total g xs)))

  -- what a filter leaves out is none
  pub total-filter : {X : Type 0} (f : X → M) (test : X → Bool) (xs : List X) → AllByRecursion (λ x. test x ≡ false → f x ≡ m.none) xs → total f (filter test xs) ≡ total f xs
  total-filter f test [] all = refl
  total-filter f test (x ∷ xs) all = by (test x) refl (total-filter f test xs all.1)
    where
      by : (b : Bool) → test x ≡ b → total f (filter test xs) ≡ total f xs → total f (if b then x ∷ filter test xs else filter test xs) ≡ m.plus (f x) (total f xs)
      by true is rest = ap (m.plus (f x)) rest
      by false is rest = rest ∙ sym (ap (λ a. m.plus a (total f xs)) (all.0 is) ∙ m.left (total f xs))

  module _ {K : Type 0} (same : K → K → Bool) (decides : (a b : K) → Decides (same a b) (a ≡ b)) where
    -- no other key is the same
    none_match : (value : M) (k : K) (keys : List K) → AllByRecursion (λ j. same k j ≡ false) keys → total (λ j. if same j k then value else m.none) keys ≡ m.none
    none_match value k keys apart =
        total_none (λ j. if same j k then value else m.none) keys
        (all_by (λ j. same k j ≡ false) (λ j. (if same j k then value else m.none) ≡ m.none)
        (λ j is. ap (λ b. if b then value else m.none) ((deciding_laws same decides).symm j k ∙ is)) keys apart)

    -- of distinct keys one is the key
    one_match : (value : M) (key : K) (keys : List K) → IsDistinct same keys → IsSeen same keys key → total (λ k. if same k key then value else m.none) keys ≡ value
    one_match value key [] apart seen = absurd (true≢false (sym seen))
    one_match value key (k ∷ keys) apart seen = by (same key k) refl (one_match value key keys (IsDistinct-tail same k keys apart)) seen
      where
        by : (b : Bool) → same key k ≡ b → (IsSeen same keys key → total (λ j. if same j key then value else m.none) keys ≡ value) → (b || list_any (same key) keys) ≡ true
            → m.plus (if same k key then value else m.none) (total (λ j. if same j key then value else m.none) keys) ≡ value
        by true is go h =
            let one : key ≡ k = (decides key k).0 is in
            ap (λ b. m.plus (if b then value else m.none) (total (λ j. if same j key then value else m.none) keys)) ((deciding_laws same decides).symm k key ∙ is)
            ∙ ap (m.plus value) (subst (λ y. total (λ j. if same j y then value else m.none) keys ≡ m.none) (sym one) (none_match value k keys (IsDistinct-head same k keys apart)))
            ∙ m.comm value m.none ∙ m.left value
        by false is go h =
            ap (λ b. m.plus (if b then value else m.none) (total (λ j. if same j key then value else m.none) keys)) ((deciding_laws same decides).symm k key ∙ is)
            ∙ m.left (total (λ j. if same j key then value else m.none) keys) ∙ go h

    -- the rows of a key, with one item more
    rows_more : (f : List ℤ → M) (x : K × List ℤ) (items : List (K × List ℤ)) (k : K)
        → total f (rows_of same (x ∷ items) k) ≡ m.plus (if same k x.0 then f x.1 else m.none) (total f (rows_of same items k))
    rows_more f x items k = by (same k x.0)
      where
        by : (b : Bool) → total f (map (λ (item : K × List ℤ). item.1) (if b then x ∷ filter (λ item. same k item.0) items else filter (λ item. same k item.0) items))
            ≡ m.plus (if b then f x.1 else m.none) (total f (map (λ (item : K × List ℤ). item.1) (filter (λ item. same k item.0) items)))
        by true = refl
        by false = sym (m.left _)

    -- The rows of all keys, key by key, are all rows.
    pub parted : (f : List ℤ → M) (keys : List K) → IsDistinct same keys → (items : List (K × List ℤ)) → AllByRecursion (λ item. IsSeen same keys item.0) items
        → total (λ k. total f (rows_of same items k)) keys ≡ total (λ item. f item.1) items
    parted f keys apart [] seen = total_none (λ k. total f (rows_of same [] k)) keys (all_by (λ k. Unit {0}) _ (λ k u. refl) keys (every keys))
      where
        every : (ks : List K) → AllByRecursion (λ k. Unit {0}) ks
        every [] = tt
        every (k ∷ ks) = (tt, every ks)
    parted f keys apart (x ∷ items) seen =
        total_same (λ k. total f (rows_of same (x ∷ items) k)) (λ k. m.plus (if same k x.0 then f x.1 else m.none) (total f (rows_of same items k))) keys
        (every keys)
        ∙ total_plus (λ k. if same k x.0 then f x.1 else m.none) (λ k. total f (rows_of same items k)) keys
        ∙ (λ j. m.plus (one_match (f x.1) x.0 keys apart seen.0 j) (parted f keys apart items seen.1 j))
      where
        every : (ks : List K) → AllByRecursion (λ k. total f (rows_of same (x ∷ items) k) ≡ m.plus (if same k x.0 then f x.1 else m.none) (total f (rows_of same items k))) ks
        every [] = tt
        every (k ∷ ks) = (rows_more f x items k, every ks)

-- natural numbers
abbrev pub adding_ℕ : Adding ℕ
adding_ℕ = record { none = 0; plus = λ a b. a + b; left = λ a. omega arith; assoc = λ a b c. omega arith; comm = λ a b. omega arith }

-- whole numbers
abbrev pub adding_ℤ : Adding ℤ
adding_ℤ = record { none = pos 0; plus = λ a b. a +ℤ b; left = +ℤ_idl; assoc = +ℤ_assoc; comm = +ℤ_comm }
