-- Reports with the same sums, of which no value is negative, show the same rows.
use Rattle.std.proofs.Common.{◌≡◌, ℕ, Bool, List, Option, sym, ap, ◌∙◌}
use Rattle.std.specs.List.{filter, list_any}
use Rattle.pp_model.specs.declared.config.Config.{Config}
use Rattle.pp_model.specs.declared.presentation.Sort.{Sort}
use Rattle.pp_model.specs.declared.profile.Profile.{Profile}
use Rattle.pp_model.specs.Finders.{Finders}
use Rattle.pp_model.specs.FrameTexts.{Written}
use Rattle.pp_grain.specs.Keys.{key_cmp}
use Rattle.pp_count.specs.Sums.{Seen, all_keys, sum_where, has, leads, occurs, flat, cum}
use Rattle.pp_count.specs.EdgeSums.{has_edge}
use Rattle.pp_count.specs.Seeing.{seen_samples}
use Rattle.pp_count.specs.Counts.{total_of}
use Rattle.pp_count.specs.Counted.{report_samples}
use Rattle.pp_count.specs.Ranks.{each_once, is_heavy}
use Rattle.pp_graph.specs.Sampled.{is_heavy_cum, report_order}
use Rattle.pp_graph.specs.Trim.{shown_keys, sums_order}
use Rattle.pp_laws.specs.Figures.{NoneNegative}
use Rattle.pp_graph.proofs.Relisted.{keys_alike}
use Rattle.pp_sums.specs.Same.{HaveSameSums, HaveSameRows}
use Rattle.pp_sums.proofs.Signs.{isnt_zero, found_is_sum}

module _ (sort : Sort) (ss ts : List (Seen Written)) (flats : (k : Written) → flat key_cmp ss k ≡ flat key_cmp ts k) (cums : (k : Written) → cum key_cmp ss k ≡ cum key_cmp ts k)
    (occur : (k : Written) → occurs key_cmp ss k ≡ occurs key_cmp ts k) where
  -- both have all keys in this order
  all_same : each_once (report_order key_cmp sort ss) (each_once key_cmp (all_keys ss)) ≡ each_once (report_order key_cmp sort ts) (each_once key_cmp (all_keys ts))
  all_same = λ i. each_once (sums_order sort (λ k. flats k i) (λ k. cums k i) key_cmp) (keys_alike ss ts occur i)

  heavy_same : (total other billionths : ℕ) → total ≡ other
      → each_once (report_order key_cmp sort ss) (filter (is_heavy_cum key_cmp total billionths ss) (each_once key_cmp (all_keys ss)))
      ≡ each_once (report_order key_cmp sort ts) (filter (is_heavy_cum key_cmp other billionths ts) (each_once key_cmp (all_keys ts)))
  heavy_same total other billionths totals = λ i.
      each_once (sums_order sort (λ k. flats k i) (λ k. cums k i) key_cmp)
      (filter (λ k. is_heavy (totals i) billionths (cums k i)) (keys_alike ss ts occur i))

module _ (p q : Profile) (f : Finders) (config : Config) (column : Option ℕ)
    (sums : (test : List Written → Bool) → sum_where test (report_samples p f config column) ≡ sum_where test (report_samples q f config column)) where
  pub sums_alike : HaveSameSums p q f config column
  sums_alike = record {
    flat = λ k. sums (leads key_cmp k);
    cum = λ k. sums (has key_cmp k);
    edge = λ kept a b. sums (has_edge key_cmp kept a b);
  }

  module _ (first : NoneNegative (seen_samples p f config column p.sample)) (second : NoneNegative (seen_samples q f config column q.sample)) where
    -- what is found in one is found in the other
    finds : (test : List Written → Bool) → list_any (λ s. test s.keys) (report_samples p f config column) ≡ list_any (λ s. test s.keys) (report_samples q f config column)
    finds test =
        found_is_sum test (seen_samples p f config column p.sample) first ∙ ap isnt_zero (sums test)
        ∙ sym (found_is_sum test (seen_samples q f config column q.sample) second)

    pub rows_alike : total_of p f config column ≡ total_of q f config column → HaveSameRows p q f config column
    rows_alike totals =
        let flats : (k : Written) → flat key_cmp (report_samples p f config column) k ≡ flat key_cmp (report_samples q f config column) k = λ k. sums (leads key_cmp k) in
        let cums : (k : Written) → cum key_cmp (report_samples p f config column) k ≡ cum key_cmp (report_samples q f config column) k = λ k. sums (has key_cmp k) in
        let occur : (k : Written) → occurs key_cmp (report_samples p f config column) k ≡ occurs key_cmp (report_samples q f config column) k = λ k. finds (has key_cmp k) in
        record {
          occur = occur;
          edge_occurs = λ kept a b. finds (has_edge key_cmp kept a b);
          total = totals;
          rows = λ limit. ap (shown_keys limit) (heavy_same config.presentation.sort (report_samples p f config column) (report_samples q f config column) flats cums occur
              (total_of p f config column) (total_of q f config column) config.presentation.nodefraction.billionths totals);
          all_rows = all_same config.presentation.sort (report_samples p f config column) (report_samples q f config column) flats cums occur;
        }
