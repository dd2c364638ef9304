-- The pairs that a report shows, and what is written of them.
use Rattle.std.proofs.Common.{◌≡◌, ℕ, ◌<◌, Bool, true, false, ◌||◌, pos, List, [], ◌∷◌, ◌++◌, length, map, All, Option, refl, sym, ap, ◌∙◌}
use Rattle.std.specs.List.{list_any}
use Rattle.std.specs.Ordering.{eq_by_cmp}
use Rattle.std.proofs.lemmas.List.{length-map}
use Rattle.std.proofs.lemmas.List.Elements.{All-head, All-tail}
use Rattle.pp_model.specs.declared.config.Config.{Config}
use Rattle.pp_model.specs.declared.loaded.Loaded.{Loaded}
use Rattle.pp_model.specs.declared.profile.Profile.{Profile}
use Rattle.pp_model.specs.declared.verdicts.Verdicts.{Verdicts}
use Rattle.pp_model.specs.Finders.{Finders}
use Rattle.pp_model.specs.FrameTexts.{Written}
use Rattle.pp_units.specs.Head.{Facts, facts_text}
use Rattle.pp_grain.specs.Keys.{key_cmp}
use Rattle.pp_grain.proofs.CallerLemmas.{key_cmp_total}
use Rattle.pp_count.specs.declared.counted.Counted.{Counted}
use Rattle.pp_count.specs.declared.sums.Sums.{Sums}
use Rattle.pp_count.specs.Counted.{IsCountedOf, report_samples}
use Rattle.pp_count.specs.Counts.{AreSumsOf, written_names}
use Rattle.pp_count.specs.Ranks.{each_once}
use Rattle.pp_count.specs.Seeing.{HoldsFilters}
use Rattle.pp_count.specs.Sums.{Seen, all_keys}
use Rattle.pp_count.specs.Table.{written_key}
use Rattle.pp_graph.specs.declared.trimming.Trimmed.{Trimmed}
use Rattle.pp_graph.specs.Figures.{figures}
use Rattle.pp_graph.specs.Trim.{is_heavy_pair, report_keys, is_report_key}
use Rattle.pp_graph.specs.Trimmed.{IsTrimmedOf}
use Rattle.pp_graph.specs.Sampled.{seen_row}
use Rattle.pp_graph.proofs.KeyRowLemmas.{row_is}
use Rattle.pp_graph.proofs.Listed.{each_once_members}
use Rattle.pp_tree.specs.Nodes.{table_heading, tree_nodes_text}
use Rattle.pp_tree.specs.Tree.{near_of, node_of, summary_text, tree_text}
use Rattle.pp_tree.specs.Ends.{Pairs, ShowsPairs, callers_in, callees_in, node_at, trimmed_text}

pub any-append : {X : Type 0} (t : X → Bool) (xs ys : List X) → list_any t (xs ++ ys) ≡ (list_any t xs || list_any t ys)
any-append t [] ys = refl
any-append t (x ∷ xs) ys =
    ap (λ b. t x || b) (any-append t xs ys)
    ∙ elim (t x) as (λ b. (b || (list_any t xs || list_any t ys)) ≡ ((b || list_any t xs) || list_any t ys)) [ true ↦ refl | false ↦ refl ]

any-keys : (t : Written → Bool) (samples : List (Seen Written)) → list_any t (all_keys samples) ≡ list_any (λ s. list_any t s.keys) samples
any-keys t [] = refl
any-keys t (s ∷ samples) = any-append t s.keys (all_keys samples) ∙ ap (λ b. list_any t s.keys || b) (any-keys t samples)

-- the keys that occur are those of the names
pub keys_of_names : (p : Profile) (samples : List (Seen Written)) (sums : Sums) → AreSumsOf p samples sums → (k : Written)
    → list_any (eq_by_cmp key_cmp k) (each_once key_cmp (all_keys samples)) ≡ list_any (eq_by_cmp key_cmp k) (written_names p sums)
keys_of_names p samples sums are k =
    each_once_members key_cmp_total (all_keys samples) k ∙ any-keys (eq_by_cmp key_cmp k) samples ∙ sym (are.occur k)

-- the node of a name, where its key's callers and callees are these
pub nodes_are : (p : Profile) (samples : List (Seen Written)) (sums : Sums) (pairs : Pairs) (order : List ℕ) → AreSumsOf p samples sums → All (λ n. n < length sums.names) order
    → map (node_at p sums pairs) order
    ≡ map (λ k. record { row = seen_row samples k; callers = map near_of (callers_in pairs k); callees = map near_of (callees_in pairs k) }) (map (written_key p sums.names) order)
nodes_are p samples sums pairs [] are below = refl
nodes_are p samples sums pairs (n ∷ order) are below = λ i.
    record {
      row = row_is p samples sums n are (All-head (λ m. m < length sums.names) n order below) i;
      callers = map near_of (callers_in pairs (written_key p sums.names n));
      callees = map near_of (callees_in pairs (written_key p sums.names n));
    } ∷ nodes_are p samples sums pairs order are (All-tail (λ m. m < length sums.names) n order below) i

-- the pairs of a tree report
abbrev pub report_pairs : Profile → Finders → Config → Option ℕ → ℕ → Pairs
report_pairs p f config column limit = record {
  shows = is_heavy_pair (figures p f config column) (is_report_key p f config column limit) config.presentation.edgefraction.billionths;
  value = (figures p f config column).sum_of_pair (is_report_key p f config column limit);
  keys = (figures p f config column).keys;
}

module _ (l : Loaded) (v : Verdicts) (config : Config) (column : Option ℕ) (limit : ℕ) (f : Finders) (c : Counted) (t : Trimmed)
    (counted : IsCountedOf l v config column c) (trimmed : IsTrimmedOf l v config column limit c t) (holds : HoldsFilters l v config.filtering f) where
  -- the trimmed graph shows them
  pub report_shows : ShowsPairs l.profile c.sums.names t.graph (report_pairs l.profile f config column limit)
  report_shows = record {
    keys = keys_of_names l.profile (report_samples l.profile f config column) c.sums (counted.sums_are f holds);
    once = (counted.sums_are f holds).once;
    edges = trimmed.edges f holds;
  }

  -- what is written of it is the tree report
  pub trimmed_is : (h : Facts) → trimmed_text l.profile c.sums t (report_pairs l.profile f config column limit) h ≡ tree_text l.profile f config column limit h
  trimmed_is h =
      let samples : List (Seen Written) = report_samples l.profile f config column in
      let keys : List Written = report_keys l.profile f config column limit in
      let nodes : map (node_at l.profile c.sums (report_pairs l.profile f config column limit)) t.ranked.order ≡ map (node_of (figures l.profile f config column) (is_report_key l.profile f config column limit) config.presentation.edgefraction.billionths) keys =
      nodes_are l.profile samples c.sums (report_pairs l.profile f config column limit) t.ranked.order (counted.sums_are f holds) trimmed.ranked.below
      ∙ ap (map (node_of (figures l.profile f config column) (is_report_key l.profile f config column limit) config.presentation.edgefraction.billionths)) (trimmed.ranked.keys f holds) in
      let count : length t.ranked.order ≡ length keys =
      sym (length-map t.ranked.order (written_key l.profile c.sums.names)) ∙ ap length (trimmed.ranked.keys f holds) in
      λ i.
      facts_text h
      ++ summary_text h (trimmed.ranked.shown_flat f holds i) (trimmed.ranked.dropped_nodes f holds i) (trimmed.dropped_edges f holds i) (count i) (trimmed.ranked.candidates f holds i)
      ++ table_heading ++ tree_nodes_text h.unit h.total (pos 0) (nodes i)
