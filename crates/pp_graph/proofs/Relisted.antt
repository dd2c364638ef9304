-- Keys that were listed once already list the same again, so what a report shows follows from its samples in any order.
use Rattle.std.proofs.Common.{◌≡◌, ℕ, Bool, not, ◌&&◌, List, length, Option, sym, ap, subst, ◌∙◌}
use Rattle.std.specs.List.{filter, list_any, IsDistinct}
use Rattle.std.specs.Ordering.{eq_by_cmp}
use Rattle.std.specs.Set.{distinct_count}
use Rattle.std.specs.Cmp.{IsTotalOrder}
use Rattle.std.specs.FinMap as finite
use Rattle.std.specs.declared.cmp.Ordering.{Ordering}
use Rattle.std.proofs.lemmas.Cmp.{eq_by_cmp_equiv}
use Rattle.std.proofs.lemmas.Map.Made.{length-from_keys}
use Rattle.std.proofs.lemmas.Map.Views.{any-filter_same}
use Rattle.pp_model.specs.declared.config.Config.{Config}
use Rattle.pp_model.specs.declared.presentation.Sort.{Sort}
use Rattle.pp_model.specs.declared.profile.Profile.{Profile}
use Rattle.pp_model.specs.Finders.{Finders}
use Rattle.pp_model.specs.FrameTexts.{Written}
use Rattle.pp_grain.specs.Keys.{key_cmp}
use Rattle.pp_grain.proofs.CallerLemmas.{key_cmp_total, key_cmp_ties}
use Rattle.pp_count.specs.Counted.{report_samples}
use Rattle.pp_count.specs.Counts.{total_of}
use Rattle.pp_count.specs.Ranks.{each_once}
use Rattle.pp_count.specs.Sums.{Seen, all_keys, occurs}
use Rattle.pp_count.proofs.EachOnce.{same_ties}
use Rattle.pp_count.proofs.Renaming.{all_keys_occur}
use Rattle.pp_count.proofs.Ties.{key_decides, tied}
use Rattle.pp_graph.specs.Sampled.{report_order, is_heavy_cum, heavy_listed, light_count}
use Rattle.pp_graph.specs.Trim.{all_report_keys, candidate_keys, light_nodes}
use Rattle.pp_graph.proofs.Filtered.{each_once-filter}
use Rattle.pp_graph.proofs.Listed.{each_once_members, each_once_same, each_once_apart}
use Rattle.pp_graph.proofs.Ordering.{report_total, report_same}

-- the key is among those that pass a test
among : (test : Written → Bool) (xs : List Written) (k : Written) → list_any (eq_by_cmp key_cmp k) (filter test xs) ≡ (test k && list_any (eq_by_cmp key_cmp k) xs)
among test xs k = any-filter_same (eq_by_cmp key_cmp k) test (test k) (λ q e. ap test (sym (tied k q e))) xs

-- what passes a test is the same before keys are listed and after it
passing : (test : Written → Bool) (xs : List Written) (k : Written)
    → list_any (eq_by_cmp key_cmp k) (filter test xs) ≡ list_any (eq_by_cmp key_cmp k) (filter test (each_once key_cmp xs))
passing test xs k = among test xs k ∙ ap (λ b. test k && b) (sym (each_once_members key_cmp_total xs k)) ∙ sym (among test (each_once key_cmp xs) k)

module _ {R : Written → Written → Ordering} (o : IsTotalOrder R) (same : finite.IsAntisymmetric R) where
  ties : eq_by_cmp R ≡ eq_by_cmp key_cmp
  ties = λ i x y. same_ties o same (eq_by_cmp key_cmp) key_decides x y i

  -- Keys that pass a test list the same in any order, of the keys themselves and of their list.
  pub relisted : (test : Written → Bool) (xs : List Written) → each_once R (filter test xs) ≡ each_once R (filter test (each_once key_cmp xs))
  relisted test xs =
      each_once_same o same (filter test xs) (filter test (each_once key_cmp xs)) (λ k.
      (λ i. list_any (ties i k) (filter test xs)) ∙ passing test xs k ∙ (λ i. list_any (sym ties i k) (filter test (each_once key_cmp xs))))

  -- So do all keys.
  pub relisted_all : (xs : List Written) → each_once R xs ≡ each_once R (each_once key_cmp xs)
  relisted_all xs =
      each_once_same o same xs (each_once key_cmp xs) (λ k.
      (λ i. list_any (ties i k) xs) ∙ sym (each_once_members key_cmp_total xs k) ∙ (λ i. list_any (sym ties i k) (each_once key_cmp xs)))

-- As many keys pass a test as their list has that pass it.
pub counted_once : (test : Written → Bool) (xs : List Written) → distinct_count (eq_by_cmp key_cmp) (filter test xs) ≡ length (filter test (each_once key_cmp xs))
counted_once test xs =
    let apart : IsDistinct (eq_by_cmp key_cmp) (filter test (each_once key_cmp xs)) =
    subst (IsDistinct (eq_by_cmp key_cmp)) (each_once-filter key_cmp_total key_cmp_ties test xs) (each_once_apart key_cmp (filter test xs)) in
    sym (length-from_keys (eq_by_cmp_equiv key_cmp_total) (filter test (each_once key_cmp xs)) (filter test xs) apart (λ k. sym (passing test xs k)))

-- Samples in which keys occur alike have one list of keys.
pub keys_alike : (ss ts : List (Seen Written)) → ((k : Written) → occurs key_cmp ss k ≡ occurs key_cmp ts k) → each_once key_cmp (all_keys ss) ≡ each_once key_cmp (all_keys ts)
keys_alike ss ts occur =
    each_once_same key_cmp_total key_cmp_ties (all_keys ss) (all_keys ts)
    (λ k. all_keys_occur key_cmp ss k ∙ occur k ∙ sym (all_keys_occur key_cmp ts k))

-- The keys of the list are those that occur.
pub listed_occur : (samples : List (Seen Written)) (k : Written) → list_any (eq_by_cmp key_cmp k) (each_once key_cmp (all_keys samples)) ≡ occurs key_cmp samples k
listed_occur samples k = each_once_members key_cmp_total (all_keys samples) k ∙ all_keys_occur key_cmp samples k

module _ (p : Profile) (f : Finders) (config : Config) (column : Option ℕ) where
  abbrev samples : List (Seen Written)
  samples = report_samples p f config column

  abbrev heavy : Written → Bool
  heavy = is_heavy_cum key_cmp (total_of p f config column) config.presentation.nodefraction.billionths samples

  -- the keys that a report may show
  pub candidates_listed : candidate_keys p f config column
      ≡ heavy_listed key_cmp config.presentation.sort (total_of p f config column) config.presentation.nodefraction.billionths samples
  candidates_listed = sym (relisted (report_total samples config.presentation.sort) (report_same samples config.presentation.sort) heavy (all_keys samples))

  -- how many are too light
  pub light_counted : light_nodes p f config column ≡ light_count key_cmp (total_of p f config column) config.presentation.nodefraction.billionths samples
  light_counted = sym (counted_once (λ k. not (heavy k)) (all_keys samples))

  -- all that occur
  pub all_listed : all_report_keys p f config column ≡ each_once (report_order key_cmp config.presentation.sort samples) (all_keys samples)
  all_listed = sym (relisted_all (report_total samples config.presentation.sort) (report_same samples config.presentation.sort) (all_keys samples))
