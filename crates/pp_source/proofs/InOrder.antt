-- Distinct items are apart in a list.
use Rattle.std.proofs.Common.{◌≡◌, List, [], ◌∷◌, ◌∙◌}
use Rattle.std.specs.List.{IsDistinct}
use Rattle.std.specs.Ordering.{eq_by_cmp}
use Rattle.std.specs.declared.cmp.Ordering.{Ordering}
use Rattle.pp_count.proofs.EachOnce.{Apart, AllApart}

module _ {K : Type 0} (R : K → K → Ordering) (flips : (x y : K) → eq_by_cmp R x y ≡ eq_by_cmp R y x) where
  apart_from : (k : K) (ks : List K) → IsDistinct (eq_by_cmp R) (k ∷ ks) → Apart R k ks
  unfolding IsDistinct
  apart_from k [] d = tt
  apart_from k (x ∷ xs) d = (flips x k ∙ d.0.0, apart_from x xs d.1)

  -- no item ties with the one before it
  pub distinct_apart : (ks : List K) → IsDistinct (eq_by_cmp R) ks → AllApart R ks
  distinct_apart [] d = tt
  distinct_apart (k ∷ ks) d = apart_from k ks d
