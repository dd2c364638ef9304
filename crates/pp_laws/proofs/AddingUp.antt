-- The flats of a report add up.
use Rattle.std.proofs.Common.{◌≡◌, ℕ, ◌*◌, Bool, true, ℤ, nat_abs, List, sym, ap, subst, ◌∙◌, arith}
use Rattle.std.specs.List.{IsDistinct, filter, list_any}
use Rattle.std.specs.Ordering.{eq_by_cmp}
use Rattle.std.proofs.lemmas.Bool.{le-leb}
use Rattle.std.proofs.lemmas.Map.Made.{IsDistinct-from_AllPairs}
use Rattle.std.proofs.lemmas.Map.Views.{any-filter_same}
use Rattle.pp_model.specs.declared.presentation.Sort.{Sort}
use Rattle.pp_model.specs.declared.profile.Profile.{Profile}
use Rattle.pp_model.specs.FrameTexts.{Written}
use Rattle.pp_grain.specs.Keys.{key_cmp}
use Rattle.pp_grain.proofs.CallerLemmas.{key_cmp_total}
use Rattle.pp_count.specs.declared.sums.Sums.{Sums}
use Rattle.pp_count.specs.Sums.{Seen, occurs, cum, sum_where, all_keys}
use Rattle.pp_count.specs.Seeing.{seen_samples}
use Rattle.pp_count.specs.Counts.{AreSumsOf, written_names, total_of}
use Rattle.pp_count.specs.Counted.{report_samples}
use Rattle.pp_count.specs.Ranks.{each_once, is_heavy}
use Rattle.pp_count.proofs.EachOnce.{same_ties}
use Rattle.pp_count.proofs.Ties.{key_decides}
use Rattle.pp_graph.specs.Sampled.{is_heavy_cum, report_order}
use Rattle.pp_graph.specs.Trim.{all_report_keys}
use Rattle.pp_graph.specs.Trimmed.{int_sum}
use Rattle.pp_graph.proofs.Ordering.{report_total, report_same}
use Rattle.pp_laws.specs.Figures.{has_frames}
use Rattle.pp_laws.specs.Flats.{FlatsAddUp, RowsAddUp, AllKeysAddUp}
use Rattle.pp_graph.proofs.Listed.{each_once_apart, each_once_members}
use Rattle.pp_graph.proofs.Relisted.{listed_occur}
use Rattle.pp_laws.proofs.Sampling.{flats_add_up, sum_where-weighed}

flats_of : (p : Profile) (samples : List (Seen Written)) (sums : Sums) → AreSumsOf p samples sums → int_sum sums.flat ≡ sum_where has_frames samples
flats_of p samples sums are =
    ap int_sum are.flat
    ∙ flats_add_up key_cmp_total samples (written_names p sums) (IsDistinct-from_AllPairs key_decides (written_names p sums) are.once) (λ k is. are.occur k ∙ is)

pub flats_counted : FlatsAddUp
flats_counted l v config column c f counted holds =
    flats_of l.profile (report_samples l.profile f config column) c.sums (counted.sums_are f holds)
    ∙ sum_where-weighed has_frames (seen_samples l.profile f config column l.profile.sample)

-- no sum is too light for a fraction of 0
pub heavy_always : (total billionths : ℕ) (sum : ℤ) → billionths ≡ 0 → is_heavy total billionths sum ≡ true
heavy_always total billionths sum none =
    ap (λ b. is_heavy total b sum) none ∙ le-leb (total * 0) (nat_abs sum * 1000000000) (omega arith)

-- report order tells apart what the order of keys tells apart
pub order_ties : (sort : Sort) (samples : List (Seen Written)) → eq_by_cmp (report_order key_cmp sort samples) ≡ eq_by_cmp key_cmp
order_ties sort samples = λ i x y. same_ties (report_total samples sort) (report_same samples sort) (eq_by_cmp key_cmp) key_decides x y i

pub rows_counted : RowsAddUp
rows_counted p f config column none =
    let samples = report_samples p f config column in
    let once : List Written = each_once key_cmp (all_keys samples) in
    let order = report_order key_cmp config.presentation.sort samples in
    let ties : eq_by_cmp order ≡ eq_by_cmp key_cmp = order_ties config.presentation.sort samples in
    let heavy : Written → Bool = is_heavy_cum key_cmp (total_of p f config column) config.presentation.nodefraction.billionths samples in
    let keys : List Written = each_once order (filter heavy once) in
    let apart : IsDistinct (eq_by_cmp key_cmp) keys = subst (λ e. IsDistinct e keys) ties (each_once_apart order (filter heavy once)) in
    let known : (k : Written) → occurs key_cmp samples k ≡ true → list_any (eq_by_cmp key_cmp k) keys ≡ true = λ k is.
    (λ i. list_any (sym ties i k) keys) ∙ each_once_members (report_total samples config.presentation.sort) (filter heavy once) k
    ∙ (λ i. list_any (ties i k) (filter heavy once))
    ∙ any-filter_same (eq_by_cmp key_cmp k) heavy true (λ q e. heavy_always (total_of p f config column) config.presentation.nodefraction.billionths (cum key_cmp samples q) none) once
    ∙ listed_occur samples k ∙ is in
    flats_add_up key_cmp_total samples keys apart known
    ∙ sum_where-weighed has_frames (seen_samples p f config column p.sample)

pub all_counted : AllKeysAddUp
all_counted p f config column =
    let samples = report_samples p f config column in
    let once : List Written = each_once key_cmp (all_keys samples) in
    let order = report_order key_cmp config.presentation.sort samples in
    let ties : eq_by_cmp order ≡ eq_by_cmp key_cmp = order_ties config.presentation.sort samples in
    let keys : List Written = all_report_keys p f config column in
    let apart : IsDistinct (eq_by_cmp key_cmp) keys = subst (λ e. IsDistinct e keys) ties (each_once_apart order once) in
    let known : (k : Written) → occurs key_cmp samples k ≡ true → list_any (eq_by_cmp key_cmp k) keys ≡ true = λ k is.
    (λ i. list_any (sym ties i k) keys) ∙ each_once_members (report_total samples config.presentation.sort) once k
    ∙ (λ i. list_any (ties i k) once)
    ∙ listed_occur samples k ∙ is in
    flats_add_up key_cmp_total samples keys apart known
    ∙ sum_where-weighed has_frames (seen_samples p f config column p.sample)
