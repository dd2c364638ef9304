-- What a report counts: sums over the plain list of samples, once for each key.
use Rattle.std.specs.Prelude.{ℕ, ℤ, pos, ◌+ℤ◌, nat_abs, Bool, false, not, List, [], ◌∷◌, map, if◌then◌else◌}
use Rattle.std.specs.List.{filter, flat_map, list_any, sum_by}
use Rattle.std.specs.Ordering.{eq_by_cmp, int_eq}
use Rattle.std.specs.declared.cmp.Ordering.{Ordering}

-- A sample as a report sees it: its selected value, and the keys of its counted frames, leaf first.
pub record Seen (K : Type 0) : Type 0 where
  pub value : ℤ
  pub keys : List K

-- the keys of all samples, sample by sample
abbrev pub all_keys : {K : Type 0} → List (Seen K) → List K
all_keys samples = flat_map (λ s. s.keys) samples

-- the samples that put keys into a report: those whose value isn't 0
abbrev pub weighed : {K : Type 0} → List (Seen K) → List (Seen K)
weighed samples = filter (λ s. not (int_eq s.value (pos 0))) samples

-- the sum of the values of the samples whose keys pass a test, each sample once
abbrev pub sum_where : {K : Type 0} → (List K → Bool) → List (Seen K) → ℤ
sum_where p [] = pos 0
sum_where p (s ∷ samples) = (if p s.keys then s.value else pos 0) +ℤ sum_where p samples

-- the sum of the absolute values
abbrev pub absolute : {K : Type 0} → List (Seen K) → ℕ
absolute samples = sum_by (λ s. nat_abs s.value) samples

-- the sample with what its keys stand for
abbrev pub renamed : {J K : Type 0} → (J → K) → Seen J → Seen K
renamed f s = record { value = s.value; keys = map f s.keys }

module _ {K : Type 0} (order : K → K → Ordering) where
  -- the key stands among these
  abbrev pub has : K → List K → Bool
  has k keys = list_any (eq_by_cmp order k) keys

  -- the key is the first of these, which is the leaf's
  abbrev pub leads : K → List K → Bool
  leads k [] = false
  leads k (q ∷ keys) = eq_by_cmp order k q

  -- one of the samples has the key
  abbrev pub occurs : List (Seen K) → K → Bool
  occurs samples k = list_any (λ s. has k s.keys) samples

  -- the sum over the samples that have the key, each sample once
  abbrev pub cum : List (Seen K) → K → ℤ
  cum samples k = sum_where (has k) samples

  -- the sum over the samples whose leaf has the key
  abbrev pub flat : List (Seen K) → K → ℤ
  flat samples k = sum_where (leads k) samples
