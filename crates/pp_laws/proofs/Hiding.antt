-- Trimming only hides.
use Rattle.std.proofs.Common.{◌≡◌, ℕ, Bool, true, cond, List, [], ◌∷◌, refl, sym, ap, ◌∙◌}
use Rattle.std.specs.List.{filter}
use Rattle.pp_model.specs.FrameTexts.{Written}
use Rattle.pp_grain.specs.Keys.{key_cmp}
use Rattle.pp_count.specs.Sums.{Seen, cum, all_keys}
use Rattle.pp_count.specs.Counts.{total_of}
use Rattle.pp_count.specs.Counted.{report_samples}
use Rattle.pp_count.specs.Ranks.{each_once}
use Rattle.pp_graph.specs.Sampled.{is_heavy_cum, report_order}
use Rattle.pp_graph.specs.Trim.{shown_keys}
use Rattle.pp_graph.proofs.Ordering.{report_total, report_same}
use Rattle.pp_laws.specs.Rows.{TrimmingHides}
use Rattle.pp_graph.proofs.Filtered.{each_once-filter}
use Rattle.pp_laws.proofs.AddingUp.{heavy_always}

kept_all : {X : Type 0} (test : X → Bool) (xs : List X) → ((x : X) → test x ≡ true) → filter test xs ≡ xs
kept_all test [] each = refl
kept_all test (x ∷ xs) each = λ i. cond (each x i) (x ∷ kept_all test xs each i) (kept_all test xs each i)

pub trimming_hides : TrimmingHides
trimming_hides none p f config column limit zero =
    let samples : List (Seen Written) = report_samples p f config column in
    let total : ℕ = total_of p f config column in
    let order = report_order key_cmp config.presentation.sort samples in
    let heavy : Written → Bool = is_heavy_cum key_cmp total config.presentation.nodefraction.billionths samples in
    let keys : List Written = each_once key_cmp (all_keys samples) in
    record {
      rows = ap (shown_keys limit)
          (each_once-filter (report_total samples config.presentation.sort) (report_same samples config.presentation.sort) heavy keys
          ∙ ap (λ ks. filter heavy (each_once order ks)) (sym (kept_all (is_heavy_cum key_cmp total none.billionths samples) keys (λ k. heavy_always total none.billionths (cum key_cmp samples k) zero))));
      samples = refl;
      total = refl;
    }
