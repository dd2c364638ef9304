-- The portions of numbers of names are those of their keys.
use Rattle.std.proofs.Common.{◌≡◌, ℕ, ◌<◌, ◌≤◌, Bool, true, false, not, cond, ℤ, pos, ◌+ℤ◌, List, [], ◌∷◌, length, map, take, drop, All, Result, Ok, Err, IfOk, refl, sym, ap, ◌∙◌, arith}
use Rattle.std.specs.Prelude.{Option, ◌==◌}
use Rattle.std.specs.Bool.{beq}
use Rattle.std.specs.List.{filter, sum_by, take-map, drop-map}
use Rattle.std.proofs.lemmas.List.{length-map}
use Rattle.std.proofs.lemmas.List.Elements.{All-nil, All-head, All-tail, All-take, All-drop, All-filter}
use Rattle.std.proofs.lemmas.List.Sums.{sum_by-cons, sum_by-take-drop}
use Rattle.pp_model.specs.declared.config.Config.{Config}
use Rattle.pp_model.specs.declared.loaded.Loaded.{Loaded}
use Rattle.pp_model.specs.declared.verdicts.Verdicts.{Verdicts}
use Rattle.pp_model.specs.declared.profile.Profile.{Profile}
use Rattle.pp_model.specs.Finders.{Finders}
use Rattle.pp_model.specs.FrameTexts.{Written}
use Rattle.pp_grain.specs.Keys.{key_cmp}
use Rattle.pp_count.specs.declared.counted.Counted.{Counted}
use Rattle.pp_count.specs.Counted.{IsCountedOf, report_samples}
use Rattle.pp_count.specs.Counts.{total_of}
use Rattle.pp_count.specs.Ranks.{is_heavy}
use Rattle.pp_count.specs.Seeing.{HoldsFilters}
use Rattle.pp_count.specs.Sums.{Seen, flat, cum, all_keys}
use Rattle.pp_count.specs.Table.{written_key}
use Rattle.pp_graph.specs.declared.ranking.Ranked.{Ranked}
use Rattle.pp_graph.specs.KeyRows.{KeyRow, row_at}
use Rattle.pp_graph.specs.Figures.{figures}
use Rattle.pp_graph.specs.Sampled.{seen_row}
use Rattle.pp_graph.specs.Ranks.{sum_of_name, is_heavy_number}
use Rattle.pp_graph.specs.Sampled.{is_heavy_cum}
use Rattle.pp_graph.specs.Trim.{all_report_keys, candidate_keys, shown_keys}
use Rattle.pp_graph.specs.Trimmed.{int_sum, IsWholeRanking}
use Rattle.pp_graph.proofs.KeyRowLemmas.{row_is}
use Rattle.pp_graph.proofs.Ordering.{report_total, report_same}
use Rattle.pp_graph.proofs.Filtered.{each_once-filter}
use Rattle.pp_account.specs.declared.nodes.NodePortions.{NodePortions}
use Rattle.pp_account.specs.Lines.{AreNodesOf}
use Rattle.pp_account.specs.Nodes.{keys_portion, light_keys, past_limit, numbers_portion, numbers_where, is_where, node_portions}

wanted_true : (b : Bool) → beq b true ≡ b
wanted_true true = refl
wanted_true false = refl

wanted_false : (b : Bool) → beq b false ≡ not b
wanted_false true = refl
wanted_false false = refl

pub same_filter : {X : Type 0} (t u : X → Bool) (xs : List X) → ((x : X) → t x ≡ u x) → filter t xs ≡ filter u xs
same_filter t u [] each = refl
same_filter t u (x ∷ xs) each = λ i. cond (each x i) (x ∷ same_filter t u xs each i) (same_filter t u xs each i)

-- K1 are the heavy keys of those that occur
pub candidates_are : (p : Profile) (f : Finders) (config : Config) (column : Option ℕ)
    → candidate_keys p f config column
    ≡ filter (is_heavy_cum key_cmp (total_of p f config column) config.presentation.nodefraction.billionths (report_samples p f config column)) (all_report_keys p f config column)
candidates_are p f config column =
    let samples : List (Seen Written) = report_samples p f config column in
    each_once-filter (report_total samples config.presentation.sort) (report_same samples config.presentation.sort)
    (is_heavy_cum key_cmp (total_of p f config column) config.presentation.nodefraction.billionths samples) (figures p f config column).keys

-- parts of numbers have what all of them have
pub shown_below : (P : ℕ → Type 0) (limit : ℕ) (ns : List ℕ) → All P ns → All P (shown_keys limit ns)
shown_below P limit ns all = elim (limit == 0) as (λ b. All P (cond b ns (take limit ns))) [
  | true ↦ all
  | false ↦ All-take P limit ns all
]

pub past_below : (P : ℕ → Type 0) (limit : ℕ) (ns : List ℕ) → All P ns → All P (past_limit limit ns)
past_below P limit ns all = elim (limit == 0) as (λ b. All P (cond b [] (drop limit ns))) [
  | true ↦ All-nil P
  | false ↦ All-drop P limit ns all
]

-- and come to no more
pub fewer : (t : ℕ → Bool) (size : ℕ → ℕ) (ns : List ℕ) → sum_by size (filter t ns) ≤ sum_by size ns
fewer t size [] = omega arith
fewer t size (n ∷ ns) =
    elim (t n) as (λ b. sum_by size (cond b (n ∷ filter t ns) (filter t ns)) ≤ sum_by size (n ∷ ns)) [
      | true ↦ omega (arith, fewer t size ns, sum_by-cons size n ns, sum_by-cons size n (filter t ns))
      | false ↦ omega (arith, fewer t size ns, sum_by-cons size n ns)
    ]

pub shown_fewer : (size : ℕ → ℕ) (limit : ℕ) (ns : List ℕ) → sum_by size (shown_keys limit ns) ≤ sum_by size ns
shown_fewer size limit ns = elim (limit == 0) as (λ b. sum_by size (cond b ns (take limit ns)) ≤ sum_by size ns) [
  | true ↦ omega arith
  | false ↦ omega (arith, sum_by-take-drop size ns limit)
]

pub past_fewer : (size : ℕ → ℕ) (limit : ℕ) (ns : List ℕ) → sum_by size (past_limit limit ns) ≤ sum_by size ns
past_fewer size limit ns = elim (limit == 0) as (λ b. sum_by size (cond b [] (drop limit ns)) ≤ sum_by size ns) [
  | true ↦ omega arith
  | false ↦ omega (arith, sum_by-take-drop size ns limit)
]

module _ (l : Loaded) (v : Verdicts) (config : Config) (column : Option ℕ) (f : Finders) (c : Counted) (counted : IsCountedOf l v config column c) (holds : HoldsFilters l v config.filtering f) where
  abbrev samples : List (Seen Written)
  samples = report_samples l.profile f config column

  abbrev key_at : ℕ → Written
  key_at n = written_key l.profile c.sums.names n

  row_of : (n : ℕ) → n < length c.sums.names → row_at l.profile c.sums n ≡ seen_row samples (key_at n)
  row_of n within = row_is l.profile samples c.sums n (counted.sums_are f holds) within

  flats_are : (ns : List ℕ) → All (λ n. n < length c.sums.names) ns → int_sum (map (sum_of_name c.sums.flat) ns) ≡ int_sum (map (flat key_cmp samples) (map key_at ns))
  flats_are [] below = refl
  flats_are (n ∷ ns) below = λ i.
      ap (λ (r : KeyRow). r.flat) (row_of n (All-head (λ m. m < length c.sums.names) n ns below)) i
      +ℤ flats_are ns (All-tail (λ m. m < length c.sums.names) n ns below) i

  portion_is : (ns : List ℕ) (keys : List Written) → All (λ n. n < length c.sums.names) ns → map key_at ns ≡ keys → numbers_portion c.sums.flat ns ≡ keys_portion l.profile f config column keys
  portion_is ns keys below are = λ i. record {
    count = (sym (length-map ns key_at) ∙ ap length are) i;
    value = (flats_are ns below ∙ ap (λ ks. int_sum (map (flat key_cmp samples) ks)) are) i;
  }

  abbrev heavy : Written → Bool
  heavy = is_heavy_cum key_cmp (total_of l.profile f config column) config.presentation.nodefraction.billionths samples

  heavy_is : (n : ℕ) → n < length c.sums.names → is_heavy_number c.total config.presentation.nodefraction.billionths c.sums n ≡ heavy (key_at n)
  heavy_is n within = λ i. is_heavy (counted.total_is f holds i) config.presentation.nodefraction.billionths (ap (λ (r : KeyRow). r.cum) (row_of n within) i)

  where_are : (wanted : Bool) (ns : List ℕ) → All (λ n. n < length c.sums.names) ns
      → map key_at (numbers_where c.sums c.total config.presentation.nodefraction.billionths wanted ns) ≡ filter (λ k. beq (heavy k) wanted) (map key_at ns)
  where_are wanted [] below = refl
  where_are wanted (n ∷ ns) below =
      let rest = where_are wanted ns (All-tail (λ m. m < length c.sums.names) n ns below) in
      let left : List ℕ = numbers_where c.sums c.total config.presentation.nodefraction.billionths wanted ns in
      ap (λ b. map key_at (cond (beq b wanted) (n ∷ left) left)) (heavy_is n (All-head (λ m. m < length c.sums.names) n ns below))
      ∙ elim (beq (heavy (key_at n)) wanted) as (λ b. map key_at (cond b (n ∷ left) left) ≡ cond b (key_at n ∷ filter (λ k. beq (heavy k) wanted) (map key_at ns)) (filter (λ k. beq (heavy k) wanted) (map key_at ns))) [
        | true ↦ ap (λ r. key_at n ∷ r) rest
        | false ↦ rest
      ]

  where_below : (wanted : Bool) (ns : List ℕ) → All (λ n. n < length c.sums.names) ns → All (λ n. n < length c.sums.names) (numbers_where c.sums c.total config.presentation.nodefraction.billionths wanted ns)
  where_below wanted ns below = All-filter (is_where c.sums c.total config.presentation.nodefraction.billionths wanted) (λ n. n < length c.sums.names) ns below

  shown_are : (limit : ℕ) (ns : List ℕ) → map key_at (shown_keys limit ns) ≡ shown_keys limit (map key_at ns)
  shown_are limit ns = elim (limit == 0) as (λ b. map key_at (cond b ns (take limit ns)) ≡ cond b (map key_at ns) (take limit (map key_at ns))) [
    | true ↦ refl
    | false ↦ sym (take-map key_at limit ns)
  ]

  past_are : (limit : ℕ) (ns : List ℕ) → map key_at (past_limit limit ns) ≡ past_limit limit (map key_at ns)
  past_are limit ns = elim (limit == 0) as (λ b. map key_at (cond b [] (drop limit ns)) ≡ cond b [] (drop limit (map key_at ns))) [
    | true ↦ refl
    | false ↦ sym (drop-map key_at limit ns)
  ]

  pub nodes_are : (limit : ℕ) (t : Ranked) → IsWholeRanking l v config column 0 c t
      → AreNodesOf l.profile f config column limit (node_portions c.sums c.total config.presentation.nodefraction.billionths limit t.order)
  nodes_are limit t whole =
      let keys : List Written = all_report_keys l.profile f config column in
      let are : map key_at t.order ≡ keys = whole.keys f holds in
      let hs : List ℕ = numbers_where c.sums c.total config.presentation.nodefraction.billionths true t.order in
      let heavies : map key_at hs ≡ candidate_keys l.profile f config column =
      where_are true t.order whole.below ∙ ap (filter (λ k. beq (heavy k) true)) are
      ∙ same_filter (λ k. beq (heavy k) true) heavy keys (λ k. wanted_true (heavy k)) ∙ sym (candidates_are l.profile f config column) in
      let lights : map key_at (numbers_where c.sums c.total config.presentation.nodefraction.billionths false t.order) ≡ light_keys l.profile f config column =
      where_are false t.order whole.below ∙ ap (filter (λ k. beq (heavy k) false)) are
      ∙ same_filter (λ k. beq (heavy k) false) (λ k. not (heavy k)) keys (λ k. wanted_false (heavy k)) in
      let hs_below = where_below true t.order whole.below in
      λ i. record {
        counted = portion_is t.order keys whole.below are i;
        light = portion_is (numbers_where c.sums c.total config.presentation.nodefraction.billionths false t.order) (light_keys l.profile f config column) (where_below false t.order whole.below) lights i;
        beyond = portion_is (past_limit limit hs) (past_limit limit (candidate_keys l.profile f config column)) (past_below (λ n. n < length c.sums.names) limit hs hs_below) (past_are limit hs ∙ ap (past_limit limit) heavies) i;
        shown = portion_is (shown_keys limit hs) (shown_keys limit (candidate_keys l.profile f config column)) (shown_below (λ n. n < length c.sums.names) limit hs hs_below) (shown_are limit hs ∙ ap (shown_keys limit) heavies) i;
      }

-- what is as one thing is as another that equals it
pub nodes_ok : {E : Type 0} (r : Result NodePortions E) (a b : NodePortions) → a ≡ b → IfOk r (λ n. n ≡ a) → IfOk r (λ n. n ≡ b)
nodes_ok (Err e) a b same h = tt
nodes_ok (Ok n) a b same h = h ∙ same
