-- The orders that reports list keys in.
use Rattle.std.proofs.Common.{◌≡◌, nat_abs, ℤ, List}
use Rattle.std.specs.Cmp.{IsTotalOrder, nat_cmp_total}
use Rattle.std.specs.FinMap.{IsAntisymmetric}
use Rattle.std.specs.Ordering.{then_cmp}
use Rattle.std.specs.declared.cmp.Ordering.{Ordering}
use Rattle.std.proofs.lemmas.Cmp.{on_total, then_total, back_total}
use Rattle.pp_base.proofs.Orders.{both_equal}
use Rattle.pp_grain.proofs.CallerLemmas.{key_cmp_total, key_cmp_ties}
use Rattle.pp_grain.specs.Keys.{key_cmp}
use Rattle.pp_model.specs.FrameTexts.{Written}
use Rattle.pp_model.specs.declared.presentation.Sort.{Sort}
use Rattle.pp_model.specs.declared.presentation.Sort.TheVariants as sorts
use Rattle.pp_count.specs.Sums.{Seen, cum, flat}
use Rattle.pp_count.specs.Ranks.{by_size}
use Rattle.pp_graph.specs.Sampled.{report_order}

module _ {K : Type 0} (order : K → K → Ordering) (value : K → ℤ) where
  -- by size first: for crates that list neighbours
  pub sized_total : IsTotalOrder order → IsTotalOrder (then_cmp (by_size value) order)
  sized_total o = then_total (back_total (on_total (λ k. nat_abs (value k)) nat_cmp_total)) o

  pub sized_same : IsAntisymmetric order → IsAntisymmetric (then_cmp (by_size value) order)
  sized_same same x y e = same x y (both_equal _ _ e).1

module _ (samples : List (Seen Written)) where
  pub report_total : (sort : Sort) → IsTotalOrder (report_order key_cmp sort samples)
  report_total sorts.Flat = sized_total (then_cmp (by_size (cum key_cmp samples)) key_cmp) (flat key_cmp samples) (sized_total key_cmp (cum key_cmp samples) key_cmp_total)
  report_total sorts.Cum = sized_total (then_cmp (by_size (flat key_cmp samples)) key_cmp) (cum key_cmp samples) (sized_total key_cmp (flat key_cmp samples) key_cmp_total)

  pub report_same : (sort : Sort) → IsAntisymmetric (report_order key_cmp sort samples)
  report_same sorts.Flat = sized_same (then_cmp (by_size (cum key_cmp samples)) key_cmp) (flat key_cmp samples) (sized_same key_cmp (cum key_cmp samples) key_cmp_ties)
  report_same sorts.Cum = sized_same (then_cmp (by_size (flat key_cmp samples)) key_cmp) (cum key_cmp samples) (sized_same key_cmp (flat key_cmp samples) key_cmp_ties)
