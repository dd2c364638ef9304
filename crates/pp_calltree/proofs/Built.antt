-- From the samples of a profile to the nodes of its call tree.
use Rattle.std.proofs.Common.{◌≡◌, ℕ, ◌<◌, ◌≤◌, ◌^◌, not, nat_abs, pos, List, [], ◌∷◌, ◌++◌, length, map, reverse, get_or, All, Option, refl, sym, ap, subst, ◌∙◌, arith}
use Rattle.std.specs.List.{filter, sum_by}
use Rattle.std.specs.Ordering.{int_eq}
use Rattle.std.proofs.lemmas.Grind.{reverse_onto}
use Rattle.std.proofs.lemmas.List.{map-append}
use Rattle.std.proofs.lemmas.List.Elements.{All-map, All-filter}
use Rattle.std.specs.List.Sorted.{IsPermutation}
use Rattle.std.proofs.lemmas.List.Sorted.{All-permutation, IsPermutation-map, sum_by-IsPermutation}
use Rattle.std.proofs.lemmas.List.Sums.{get_or-le-sum_by}
use Rattle.pp_model.specs.declared.config.Config.{Config}
use Rattle.pp_model.specs.declared.loaded.Loaded.{Loaded}
use Rattle.pp_model.specs.declared.verdicts.Verdicts.{Verdicts}
use Rattle.pp_model.specs.declared.profile.Profile.{Profile}
use Rattle.pp_model.specs.FrameTexts.{Written}
use Rattle.pp_grain.specs.declared.key.Key.{Key}
use Rattle.pp_grain.specs.Keys.{key_cmp, IsKeyOf}
use Rattle.pp_count.specs.Table.{written_key}
use Rattle.pp_count.specs.declared.scope.Scope.{Scope}
use Rattle.pp_count.specs.Sums.{Seen, weighed, renamed}
use Rattle.pp_count.specs.Parts.{HasBelow}
use Rattle.pp_count.specs.Scope.{profile_in_scope, samples_in_scope, config_of}
use Rattle.pp_count.proofs.CallerLemmas.{weighed-renamed}
use Rattle.pp_calltree.specs.declared.building.ReportPaths.{ReportPaths}
use Rattle.pp_calltree.specs.declared.listing.PathSum.{PathSum}
use Rattle.pp_calltree.specs.declared.path.Path.{Path}
use Rattle.pp_calltree.specs.declared.paths.Paths.{Paths}
use Rattle.pp_calltree.specs.declared.tree.PathNode.{PathNode}
use Rattle.pp_calltree.specs.CallPaths.{all_paths, has_sum, paths_below, path_written, ArePathsOf, HasKeysOf}
use Rattle.pp_calltree.specs.CallTree.{any_row, rooted, all_lengths, rows_below, tree_rows}
use Rattle.pp_calltree.specs.Laid.{node_row, written_out, HasRoom}
use Rattle.pp_calltree.proofs.CountedPaths.{paths_within}
use Rattle.pp_calltree.specs.Gathered.{samples_of_paths, AreGathered, ChoosesKept, IsScopeOf}
use Rattle.pp_calltree.specs.Paths.{below, path_of, HasPaths}
use Rattle.pp_calltree.specs.Tree.{IsTreeOf}
use Rattle.pp_calltree.proofs.Permuted.{alike_permuted, paths_alike, rows_alike}
use Rattle.pp_calltree.proofs.Waiting.{all_reversed}

map-reversed : {J K : Type 0} (f : J → K) (ks : List J) → map f (reverse ks) ≡ reverse (map f ks)
map-reversed f [] = refl
map-reversed f (k ∷ ks) =
    ap (map f) (reverse_onto ks k []) ∙ map-append f (reverse ks) (k ∷ []) ∙ ap (λ r. r ++ f k ∷ []) (map-reversed f ks)
    ∙ sym (reverse_onto (map f ks) (f k) [])

-- keys may be written out before or after they are turned round
rooted-renamed : {J K : Type 0} (f : J → K) (S : List (Seen J)) → map (renamed f) (map rooted S) ≡ map rooted (map (renamed f) S)
rooted-renamed f [] = refl
rooted-renamed f (s ∷ S) = λ i. record { value = s.value; keys = map-reversed f s.keys i } ∷ rooted-renamed f S i

-- the paths of the samples that the filters leave are those of the report, and can be laid out
pub paths_gathered : (scope : Scope) (paths : Paths) → ChoosesKept scope → HasPaths scope (samples_in_scope scope) paths → AreGathered scope paths
paths_gathered scope paths kept has =
    let n : ℕ = length scope.table.now.names in
    let S : List (Seen ℕ) = has.seen in
    record {
      sound = kept.sound;
      whole = has.stands.whole;
      room = subst (λ (r : List (Seen ℕ)). HasRoom scope.table.now.names (all_lengths r) r) (sym has.stands.are) (record {
        below = All-map (HasBelow n) rooted (weighed S)
            (λ i d here. all_reversed (λ k. k < n) (get_or (weighed S) i d).keys
            (All-filter (λ (s : Seen ℕ). not (int_eq s.value (pos 0))) (HasBelow n) S has.are.below i d here));
        short = λ i d here. get_or-le-sum_by (λ (s : Seen ℕ). length s.keys) (map rooted (weighed S)) i d here;
        fits = omega (arith, kept.countable.fits, has.are.within, paths_within S);
      });
      are = λ f holds.
          ap (written_out (profile_in_scope scope) scope.table.now.names) has.stands.are
          ∙ rooted-renamed _ (weighed S) ∙ ap (map rooted) (sym (weighed-renamed _ S) ∙ ap weighed (has.are.are f holds ∙ kept.all f holds));
    }

-- what can be laid out can be so in any order
sorted_room : (names : List Key) (S R : List (Seen ℕ)) → IsPermutation S R → HasRoom names (all_lengths S) S → HasRoom names (all_lengths R) R
sorted_room names S R moved room =
    let same : all_lengths S ≡ all_lengths R = sym (sum_by-IsPermutation (λ (s : Seen ℕ). length s.keys) S R moved) in
    record {
      below = All-permutation (HasBelow (length names)) S R moved room.below;
      short = All-permutation (λ (s : Seen ℕ). length s.keys ≤ all_lengths R) S R moved (subst (λ n. All (λ (s : Seen ℕ). length s.keys ≤ n) S) same room.short);
      fits = omega (arith, room.fits, sum_by-IsPermutation (λ (s : Seen ℕ). nat_abs s.value) S R moved);
    }

-- and comes to the same nodes
sorted_rows : (p : Profile) (names : List Key) (S R : List (Seen ℕ)) → IsPermutation S R
    → tree_rows key_cmp any_row (written_out p names R) ≡ tree_rows key_cmp any_row (written_out p names S)
sorted_rows p names S R moved =
    let W : List (Seen Written) = written_out p names S in
    let V : List (Seen Written) = written_out p names R in
    let written : IsPermutation W V = IsPermutation-map (renamed (written_key p names)) S R moved in
    sym (rows_alike (all_lengths W) 0 W V (alike_permuted W V written)
    ∙ ap (λ n. rows_below key_cmp any_row n 0 V) (sym (sum_by-IsPermutation (λ (s : Seen Written). length s.keys) W V written)))

-- and to the same paths
sorted_paths : (p : Profile) (names : List Key) (S R : List (Seen ℕ)) → IsPermutation S R
    → all_paths key_cmp (written_out p names R) ≡ all_paths key_cmp (written_out p names S)
sorted_paths p names S R moved =
    let W : List (Seen Written) = written_out p names S in
    let V : List (Seen Written) = written_out p names R in
    let written : IsPermutation W V = IsPermutation-map (renamed (written_key p names)) S R moved in
    sym (paths_alike (all_lengths W) [] W V (alike_permuted W V written)
    ∙ ap (λ n. paths_below key_cmp n [] V) (sym (sum_by-IsPermutation (λ (s : Seen Written). length s.keys) W V written)))

-- paths in another order
pub moved_paths : (S : List (Seen ℕ)) (cut sorted : List Path) → map path_of cut ≡ S → IsPermutation cut sorted → IsPermutation S (below 0 sorted)
moved_paths S cut sorted is moved = subst (λ (r : List (Seen ℕ)). IsPermutation r (below 0 sorted)) is (IsPermutation-map path_of cut sorted moved)

-- what holds of a scope's own values holds of those that it is of
of_scope : (P : Loaded → Verdicts → Config → Option ℕ → Type 0) (l : Loaded) (v : Verdicts) (config : Config) (column : Option ℕ) (scope : Scope) → IsScopeOf l v config column scope
    → P scope.l.now scope.v.now (config_of scope) scope.column → P l v config column
of_scope P l v config column scope same here =
    subst (λ x. P x v config column) same.l_is (subst (λ x. P scope.l.now x config column) same.v_is
    (subst (λ x. P scope.l.now scope.v.now x column) same.config_is (subst (λ x. P scope.l.now scope.v.now (config_of scope) x) same.column_is here)))

-- The gathered paths in the order of their keys.
module _ (gathered : ReportPaths) (sorted : List Path) (moved : IsPermutation (samples_of_paths gathered.paths) (below 0 sorted)) where
  abbrev scope : Scope
  scope = gathered.scope

  abbrev p : Profile
  p = profile_in_scope scope

  abbrev names : List Key
  names = scope.table.now.names

  abbrev samples : List (Seen ℕ)
  samples = samples_of_paths gathered.paths

  pub gathered_room : HasRoom names (all_lengths (below 0 sorted)) (below 0 sorted)
  gathered_room = sorted_room names samples (below 0 sorted) moved gathered.gathered.room

  -- their paths are those of the report
  pub sums_are : (list : List PathSum) → map (path_written p names) list ≡ filter has_sum (all_paths key_cmp (written_out p names (below 0 sorted))) → All (HasKeysOf p names) list
      → (l : Loaded) (v : Verdicts) (config : Config) (column : Option ℕ) → IsScopeOf l v config column scope → ArePathsOf l v config column names list
  sums_are list listed keys l v config column same =
      of_scope (λ l v config column. ArePathsOf l v config column names list) l v config column scope same (record {
        are = λ f holds. listed ∙ ap (filter has_sum) (sorted_paths p names samples (below 0 sorted) moved ∙ ap (all_paths key_cmp) (gathered.gathered.are f holds));
        keys = keys;
      })

  -- and their nodes those of its tree
  pub tree_is : (nodes : List PathNode) → map (node_row p) nodes ≡ tree_rows key_cmp any_row (written_out p names (below 0 sorted)) → All (λ n. IsKeyOf p n.key) nodes
      → sum_by (λ n. nat_abs n.flat) nodes < 2 ^ 63
      → (l : Loaded) (v : Verdicts) (config : Config) (column : Option ℕ) → IsScopeOf l v config column scope → IsTreeOf l v config column nodes
  tree_is nodes laid keys fits l v config column same =
      of_scope (λ l v config column. IsTreeOf l v config column nodes) l v config column scope same (record {
        rows = λ f holds. laid ∙ sorted_rows p names samples (below 0 sorted) moved ∙ ap (tree_rows key_cmp any_row) (gathered.gathered.are f holds);
        keys = keys;
        fits = fits;
      })
