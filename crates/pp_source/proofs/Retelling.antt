-- Sums over samples by numbers are the sums by what the numbers stand for.
use Rattle.std.proofs.Common.{◌≡◌, ℕ, ◌<◌, ◌||◌, false, cond, pos, ◌+ℤ◌, List, [], ◌∷◌, map, All, refl, sym, ap, ◌∙◌}
use Rattle.std.specs.Ordering.{eq_by_cmp}
use Rattle.std.specs.declared.cmp.Ordering.{Ordering}
use Rattle.std.proofs.Math.IntN.{+ℤ_idl}
use Rattle.std.proofs.lemmas.List.Elements.{All-head, All-tail}
use Rattle.pp_count.specs.declared.tally.Tally.{Tally}
use Rattle.pp_count.specs.Parts.{HasBelow}
use Rattle.pp_count.specs.Sums.{Seen, renamed, has, leads, cum, flat, occurs}
use Rattle.pp_count.specs.Tally.{no_tally}
use Rattle.pp_count.proofs.Keyed.{map_twice}
use Rattle.pp_source.specs.Tally.{IsTallyBy}

pub renamed_twice : {X Y Z : Type 0} (g : Y → Z) (f : X → Y) (ss : List (Seen X)) → map (renamed g) (map (renamed f) ss) ≡ map (renamed (λ x. g (f x))) ss
renamed_twice g f [] = refl
renamed_twice g f (s ∷ ss) = λ i. record { value = s.value; keys = map_twice g f s.keys i } ∷ renamed_twice g f ss i

-- a key that ties with what the numbers stand for where another ties with what they stand for otherwise
module _ {A B : Type 0} (one : A → A → Ordering) (other : B → B → Ordering) (f : ℕ → A) (g : ℕ → B) (a : A) (b : B) (n : ℕ)
    (agree : (m : ℕ) → m < n → eq_by_cmp one a (f m) ≡ eq_by_cmp other b (g m)) where
  has_same : (ks : List ℕ) → All (λ m. m < n) ks → has one a (map f ks) ≡ has other b (map g ks)
  has_same [] below = refl
  has_same (m ∷ ks) below = λ i. agree m (All-head (λ j. j < n) m ks below) i || has_same ks (All-tail (λ j. j < n) m ks below) i

  leads_same : (ks : List ℕ) → All (λ m. m < n) ks → leads one a (map f ks) ≡ leads other b (map g ks)
  leads_same [] below = refl
  leads_same (m ∷ ks) below = agree m (All-head (λ j. j < n) m ks below)

  cum_same : (ss : List (Seen ℕ)) → All (HasBelow n) ss → cum one (map (renamed f) ss) a ≡ cum other (map (renamed g) ss) b
  cum_same [] below = refl
  cum_same (s ∷ ss) below = λ i. cond (has_same s.keys (All-head (HasBelow n) s ss below) i) s.value (pos 0) +ℤ cum_same ss (All-tail (HasBelow n) s ss below) i

  flat_same : (ss : List (Seen ℕ)) → All (HasBelow n) ss → flat one (map (renamed f) ss) a ≡ flat other (map (renamed g) ss) b
  flat_same [] below = refl
  flat_same (s ∷ ss) below = λ i. cond (leads_same s.keys (All-head (HasBelow n) s ss below) i) s.value (pos 0) +ℤ flat_same ss (All-tail (HasBelow n) s ss below) i

  occurs_same : (ss : List (Seen ℕ)) → All (HasBelow n) ss → occurs one (map (renamed f) ss) a ≡ occurs other (map (renamed g) ss) b
  occurs_same [] below = refl
  occurs_same (s ∷ ss) below = λ i. has_same s.keys (All-head (HasBelow n) s ss below) i || occurs_same ss (All-tail (HasBelow n) s ss below) i

  pub tally_same : (ss : List (Seen ℕ)) (t : Tally) → All (HasBelow n) ss → IsTallyBy other (map (renamed g) ss) b t → IsTallyBy one (map (renamed f) ss) a t
  tally_same ss t below is = record {
    flat = is.flat ∙ sym (flat_same ss below);
    cum = is.cum ∙ sym (cum_same ss below);
    occurs = is.occurs ∙ sym (occurs_same ss below);
  }

-- a key that ties with nothing has no tally
module _ {A : Type 0} (order : A → A → Ordering) (f : ℕ → A) (a : A) (n : ℕ) (none : (m : ℕ) → m < n → eq_by_cmp order a (f m) ≡ false) where
  has_none : (ks : List ℕ) → All (λ m. m < n) ks → has order a (map f ks) ≡ false
  has_none [] below = refl
  has_none (m ∷ ks) below = λ i. none m (All-head (λ j. j < n) m ks below) i || has_none ks (All-tail (λ j. j < n) m ks below) i

  leads_none : (ks : List ℕ) → All (λ m. m < n) ks → leads order a (map f ks) ≡ false
  leads_none [] below = refl
  leads_none (m ∷ ks) below = none m (All-head (λ j. j < n) m ks below)

  pub no_tally_of : (ss : List (Seen ℕ)) → All (HasBelow n) ss → IsTallyBy order (map (renamed f) ss) a no_tally
  no_tally_of [] below = record { flat = refl; cum = refl; occurs = refl }
  no_tally_of (s ∷ ss) below =
      let rest = no_tally_of ss (All-tail (HasBelow n) s ss below) in
      let here : All (λ m. m < n) s.keys = All-head (HasBelow n) s ss below in
      record {
        flat = rest.flat ∙ sym (+ℤ_idl (flat order (map (renamed f) ss) a)) ∙ (λ i. cond (sym (leads_none s.keys here) i) s.value (pos 0) +ℤ flat order (map (renamed f) ss) a);
        cum = rest.cum ∙ sym (+ℤ_idl (cum order (map (renamed f) ss) a)) ∙ (λ i. cond (sym (has_none s.keys here) i) s.value (pos 0) +ℤ cum order (map (renamed f) ss) a);
        occurs = rest.occurs ∙ ap (λ b. b || occurs order (map (renamed f) ss) a) (sym (has_none s.keys here));
      }
