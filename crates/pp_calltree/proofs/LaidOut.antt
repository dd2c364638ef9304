-- Branches are laid out in the order of the call tree.
use Rattle.std.proofs.Common.{◌≡◌, ℕ, zero, suc, ◌+◌, ◌-◌, ◌<◌, ◌≤◌, ◌||◌, nat_eq, nat_abs, List, [], ◌∷◌, ◌++◌, length, map, get_or, All, refl, sym, ap, subst, ◌∙◌, arith}
use Rattle.std.specs.Prelude.{flat_map}
use Rattle.std.specs.List.{list_any, sum_by}
use Rattle.std.proofs.lemmas.List.Sums.{sum_by-cons, sum_by_push}
use Rattle.std.specs.List.Sorted.{IsSorted}
use Rattle.std.specs.Ordering.{nat_cmp}
use Rattle.std.proofs.lemmas.Bool.{false≢true, eq-eqb}
use Rattle.std.proofs.lemmas.Grind.{flat_map-append}
use Rattle.std.proofs.lemmas.List.{append-nil, map-append}
use Rattle.std.proofs.lemmas.List.Concat.{flat_map-cons}
use Rattle.std.proofs.lemmas.List.Elements.{All-nil, All-head, All-tail, All-push}
use Rattle.pp_model.specs.declared.profile.Profile.{Profile}
use Rattle.pp_model.specs.FrameTexts.{Written}
use Rattle.pp_grain.specs.declared.key.Key.{Key}
use Rattle.pp_grain.specs.Keys.{key_cmp, IsKeyOf}
use Rattle.pp_count.specs.Sums.{Seen, absolute, renamed, sum_where}
use Rattle.pp_count.specs.Parts.{HasBelow}
use Rattle.pp_count.specs.Table.{no_key, written_key}
use Rattle.pp_calltree.specs.declared.branch.Branch.{Branch}
use Rattle.pp_calltree.specs.declared.texts.NameTexts.{NameTexts}
use Rattle.pp_calltree.specs.declared.tree.NumberedNode.{NumberedNode}
use Rattle.pp_calltree.specs.declared.tree.PathNode.{PathNode}
use Rattle.pp_calltree.specs.declared.path.Path.{Path}
use Rattle.pp_calltree.specs.CallPaths.{path_by, paths_below}
use Rattle.pp_calltree.specs.CallTree.{TreeRow, all_lengths, any_row, is_end, under, path_cum, path_flat, tree_row, rows_below, tree_rows}
use Rattle.pp_calltree.specs.Branches.{Said, branch_samples, branch_said, branch_of, AreBranches, AreOrdered}
use Rattle.pp_calltree.specs.Links.{node_by, nodes_by}
use Rattle.pp_calltree.specs.Listed.{trail, branch_paths, AddsBranches}
use Rattle.pp_calltree.specs.Paths.{below}
use Rattle.pp_calltree.specs.Siblings.{branch_cmp}
use Rattle.pp_calltree.specs.Laid.{node_row, written_out, branch_row, whole_branch, CanLay, HasRoom, IsLayable}
use Rattle.pp_calltree.proofs.Under.{all_lengths-renamed, under-renamed, under_all, under_size, none_first, parted}
use Rattle.pp_calltree.proofs.Children.{siblings_are, keys_below, row_cum, row_flat}
use Rattle.pp_calltree.proofs.Waiting.{next_holds, sum_waiting, whole_start, whole_more, whole_end, MakesWhole}

-- lists put together of what each item gives
flat_map-mapped : {A B C : Type 0} (F : B → List C) (g : A → B) (H : A → List C) (xs : List A) → All (λ x. F (g x) ≡ H x) xs → flat_map F (map g xs) ≡ flat_map H xs
flat_map-mapped F g H [] all = refl
flat_map-mapped F g H (x ∷ xs) all =
    flat_map-cons F (g x) (map g xs)
    ∙ (λ i. All-head (λ y. F (g y) ≡ H y) x xs all i ++ flat_map-mapped F g H xs (All-tail (λ y. F (g y) ≡ H y) x xs all) i)
    ∙ sym (flat_map-cons H x xs)

module _ (p : Profile) (names : List Key) (texts : NameTexts) (can : CanLay p names texts) where
  abbrev name : ℕ → Written
  name = written_key p names

  -- paths without keys have no branch
  no_branches : (depth : ℕ) (S : List (Seen ℕ)) (list : List Branch) → All (λ s. length s.keys ≤ 0) S → AreBranches depth S list → list ≡ []
  no_branches depth S [] short are = refl
  no_branches depth S (b ∷ bs) short are =
      absurd (false≢true (sym (none_first b.key S short) ∙ sym (are.present b.key) ∙ ap (λ e. e || list_any (nat_eq b.key) (map (λ (c : Branch). c.key) bs)) (eq-eqb b.key b.key refl)))

  module _ (most depth : ℕ) (S : List (Seen ℕ)) (list : List Branch) (ordered : AreOrdered depth S list) (sorted : IsSorted (branch_cmp texts) list) where
    abbrev are : AreBranches depth S list
    are = ordered.are

    -- a branch has room for what is left of its paths
    layable_at : (left : ℕ) → HasRoom names (suc left) S → most ≡ depth + suc left → All (IsLayable names most) list
    layable_at left room same i d here =
        let b : Branch = get_or list i d in
        let is : branch_said b ≡ branch_of depth S b.key = are.said_are i d here in
        let depth_is : b.depth ≡ depth = ap (λ (s : Said). s.depth) is in
        let samples_are : branch_samples b ≡ under nat_cmp b.key S = ap (λ (s : Said). s.samples) is in
        record {
          depth_fits = omega (arith, depth_is, same);
          key_below = keys_below texts name (length names) can.apart can.texts_are depth S room.below list are i d here;
          room = record {
            below = subst (All (HasBelow (length names))) (sym samples_are)
                (under_all (HasBelow (length names)) (HasBelow (length names)) (λ v q path all. All-tail (λ k. k < length names) q path all) b.key S room.below);
            short = subst (All (λ (s : Seen ℕ). length s.keys ≤ most - (b.depth + 1))) (sym samples_are)
                (under_all (λ (s : Seen ℕ). length s.keys ≤ suc left) (λ (s : Seen ℕ). length s.keys ≤ most - (b.depth + 1)) (λ v q path short. omega (arith, short, depth_is, same)) b.key S room.short);
            fits = omega (arith, ap absolute samples_are, under_size b.key S, room.fits);
          };
          flat_is = ap (λ (s : Said). s.flat) is ∙ ap (sum_where is_end) (sym samples_are);
          rises = ordered.rise i d here;
        }

    -- the samples of the branches, and those that end here, are within all
    pub branch_sizes : sum_by (λ (b : Branch). absolute (branch_samples b)) list + nat_abs (sum_where is_end S) ≤ absolute S
    branch_sizes = omega (arith, sizes_are list are.said_are, parted (map (λ (b : Branch). b.key) list) are.distinct S) where
      sizes_are : (xs : List Branch) → All (λ (b : Branch). branch_said b ≡ branch_of depth S b.key) xs
          → sum_by (λ (b : Branch). absolute (branch_samples b)) xs ≡ sum_by (λ k. absolute (under nat_cmp k S)) (map (λ (b : Branch). b.key) xs)
      sizes_are [] all = refl
      sizes_are (x ∷ xs) all = omega (
        arith,
        sizes_are xs (All-tail (λ (b : Branch). branch_said b ≡ branch_of depth S b.key) x xs all),
        ap (λ (s : Said). absolute s.samples) (All-head (λ (b : Branch). branch_said b ≡ branch_of depth S b.key) x xs all),
        sum_by-cons (λ (b : Branch). absolute (branch_samples b)) x xs,
        sum_by-cons (λ k. absolute (under nat_cmp k S)) x.key (map (λ (b : Branch). b.key) xs),
      )

    -- A branch has what its key has in the call tree.
    record IsChild (left : ℕ) (b : Branch) : Type 0 where
      depth_is : depth ≡ b.depth
      left_is : left ≡ most - (b.depth + 1)
      flat_is : path_flat key_cmp (written_out p names S) (name b.key) ≡ b.flat
      cum_is : path_cum key_cmp (written_out p names S) (name b.key) ≡ b.cum
      samples_are : under key_cmp (name b.key) (written_out p names S) ≡ written_out p names (branch_samples b)

    child_at : (left : ℕ) → HasRoom names (suc left) S → most ≡ depth + suc left → All (IsChild left) list
    child_at left room same i d here =
        let b : Branch = get_or list i d in
        let is : branch_said b ≡ branch_of depth S b.key = are.said_are i d here in
        let deep : depth ≡ b.depth = sym (ap (λ (s : Said). s.depth) is) in
        let in_n : b.key < length names = keys_below texts name (length names) can.apart can.texts_are depth S room.below list are i d here in
        record {
          depth_is = deep;
          left_is = omega (arith, deep, same);
          flat_is = row_flat texts name (length names) can.apart can.texts_are depth S room.below list are i d here;
          cum_is = row_cum texts name (length names) can.apart can.texts_are depth S room.below list are i d here;
          samples_are = under-renamed key_cmp name (length names) can.apart b.key S in_n room.below ∙ ap (map (renamed name)) (sym (ap (λ (s : Said). s.samples) is));
        }

    branch_at : (left : ℕ) → HasRoom names (suc left) S → most ≡ depth + suc left
        → All (λ (b : Branch). (tree_row key_cmp depth (written_out p names S) (name b.key) ∷ rows_below key_cmp any_row left (depth + 1) (under key_cmp (name b.key) (written_out p names S))) ≡ whole_branch p names most b) list
    branch_at left room same i d here =
        let b : Branch = get_or list i d in
        let child : IsChild left b = child_at left room same i d here in
        λ j. record { depth = child.depth_is j; key = name b.key; flat = child.flat_is j; cum = child.cum_is j }
        ∷ rows_below key_cmp any_row (child.left_is j) (child.depth_is j + 1) (child.samples_are j)

    -- The branches below `depth` keys give the rows below them.
    pub laid : (left : ℕ) → HasRoom names left S → most ≡ depth + left
        → (rows_below key_cmp any_row left depth (written_out p names S) ≡ flat_map (whole_branch p names most) list) × All (IsLayable names most) list
    laid zero room same =
        let none : list ≡ [] = no_branches depth S list room.short are in
        (sym (ap (flat_map (whole_branch p names most)) none), subst (All (IsLayable names most)) (sym none) (All-nil (IsLayable names most)))
    laid (suc left) room same = (
      ap (flat_map (λ k. tree_row key_cmp depth (written_out p names S) k ∷ rows_below key_cmp any_row left (depth + 1) (under key_cmp k (written_out p names S))))
          (siblings_are texts name (length names) can.apart can.texts_are depth S room.below list are sorted)
          ∙ flat_map-mapped (λ k. tree_row key_cmp depth (written_out p names S) k ∷ rows_below key_cmp any_row left (depth + 1) (under key_cmp k (written_out p names S)))
          (λ (b : Branch). name b.key) (whole_branch p names most) list (branch_at left room same),
      layable_at left room same,
    )

    module _ (above : List ℕ) (trails : All (λ (b : Branch). trail b ≡ above ++ b.key ∷ []) list) where
      abbrev names_above : List Written
      names_above = map name above

      path_at : (left : ℕ) → HasRoom names (suc left) S → most ≡ depth + suc left
          → All (λ (b : Branch). (path_by key_cmp names_above (written_out p names S) (name b.key) ∷ paths_below key_cmp left (names_above ++ name b.key ∷ []) (under key_cmp (name b.key) (written_out p names S))) ≡ branch_paths p names most b) list
      path_at left room same i d here =
          let b : Branch = get_or list i d in
          let child : IsChild left b = child_at left room same i d here in
          let keys : names_above ++ name b.key ∷ [] ≡ map name (trail b) = sym (ap (map name) (trails i d here) ∙ map-append name above (b.key ∷ [])) in
          λ j. record { keys = keys j; sum = child.flat_is j } ∷ paths_below key_cmp (child.left_is j) (keys j) (child.samples_are j)

      -- The branches below these keys give the paths that go on from there.
      pub paths_laid : (left : ℕ) → HasRoom names left S → most ≡ depth + left
          → paths_below key_cmp left names_above (written_out p names S) ≡ flat_map (branch_paths p names most) list
      paths_laid zero room same = sym (ap (flat_map (branch_paths p names most)) (no_branches depth S list room.short are))
      paths_laid (suc left) room same =
          ap (flat_map (λ k. path_by key_cmp names_above (written_out p names S) k ∷ paths_below key_cmp left (names_above ++ k ∷ []) (under key_cmp k (written_out p names S))))
          (siblings_are texts name (length names) can.apart can.texts_are depth S room.below list are sorted)
          ∙ flat_map-mapped (λ k. path_by key_cmp names_above (written_out p names S) k ∷ paths_below key_cmp left (names_above ++ k ∷ []) (under key_cmp k (written_out p names S)))
          (λ (b : Branch). name b.key) (branch_paths p names most) list (path_at left room same)

-- The nodes so far, and those of the branches that wait, are those of the samples.
pub record Laying (p : Profile) (names : List Key) (samples : List (Seen ℕ)) (nodes : List NumberedNode) (waiting : List Branch) : Type 0 where
  pub rows : MakesWhole (IsLayable names (all_lengths samples)) (flat_map (whole_branch p names (all_lengths samples)))
      (tree_rows key_cmp any_row (written_out p names samples)) (map (node_row p) (nodes_by names nodes)) waiting
  pub keys : All (λ n. IsKeyOf p n.key) (nodes_by names nodes)
  pub sizes : sum_by (λ n. nat_abs n.flat) (nodes_by names nodes) + sum_by (λ b. absolute (branch_samples b)) waiting ≤ absolute samples

module _ (p : Profile) (names : List Key) (texts : NameTexts) (can : CanLay p names texts) (paths : List Path) where
  abbrev S : List (Seen ℕ)
  S = below 0 paths

  abbrev most : ℕ
  most = all_lengths S

  abbrev all_rows : List (TreeRow Written)
  all_rows = tree_rows key_cmp any_row (written_out p names S)

  abbrev load : Branch → ℕ
  load b = absolute (branch_samples b)

  abbrev size : PathNode → ℕ
  size n = nat_abs n.flat

  -- the branches of all samples wait
  pub laying_start : (nodes : List NumberedNode) (new : List Branch) → HasRoom names most S → nodes ≡ [] → AddsBranches texts 0 paths [] new → Laying p names S nodes new
  laying_start nodes new room none adds =
      let is = laid p names texts can most 0 S adds.branches adds.are adds.sorted most room (omega arith) in
      let all : rows_below key_cmp any_row most 0 (written_out p names S) ≡ all_rows = ap (λ n. rows_below key_cmp any_row n 0 (written_out p names S)) (sym (all_lengths-renamed (written_key p names) S)) in
      record {
        rows = whole_start (IsLayable names most) (flat_map (whole_branch p names most)) all_rows (map (node_row p) (nodes_by names nodes)) new adds.branches
            (ap (λ ns. map (node_row p) (nodes_by names ns)) none) adds.added (sym is.0 ∙ all) is.1;
        keys = subst (λ ns. All (λ (n : PathNode). IsKeyOf p n.key) (nodes_by names ns)) (sym none) (All-nil (λ (n : PathNode). IsKeyOf p n.key));
        sizes = omega (
          arith,
          branch_sizes p names texts can most 0 S adds.branches adds.are adds.sorted,
          ap (λ ns. sum_by size (nodes_by names ns)) none,
          sum_waiting load [] new adds.branches adds.added,
        );
      }

  -- one more node is laid out
  pub laying_more : (nodes new_nodes : List NumberedNode) (n : NumberedNode) (waiting old new : List Branch) (b : Branch) → All (IsKeyOf p) names → waiting ≡ old ++ b ∷ []
      → new_nodes ≡ nodes ++ n ∷ [] → n ≡ record { key = b.key; depth = b.depth; flat = b.flat; cum = b.cum } → AddsBranches texts (b.depth + 1) b.paths.now old new
      → Laying p names S nodes waiting → Laying p names S new_nodes new
  laying_more nodes new_nodes n waiting old new b names_are taken pushed n_is adds so_far =
      let whole : Branch → List (TreeRow Written) = whole_branch p names most in
      let layable : IsLayable names most b = next_holds waiting old b taken (IsLayable names most) so_far.rows.each in
      let is = laid p names texts can most (b.depth + 1) (branch_samples b) adds.branches adds.are adds.sorted (most - (b.depth + 1)) layable.room (omega (arith, layable.depth_fits)) in
      let node : PathNode = node_by names n in
      let front : List (TreeRow Written) = map (node_row p) (nodes_by names nodes) in
      let row : node_row p node ≡ branch_row p names b = ap (λ m. node_row p (node_by names m)) n_is in
      let nodes_are : nodes_by names new_nodes ≡ nodes_by names nodes ++ node ∷ [] = ap (nodes_by names) pushed ∙ map-append (node_by names) nodes (n ∷ []) in
      record {
        rows = whole_more (IsLayable names most) (flat_map whole) all_rows (flat_map-append whole) front (branch_row p names b ∷ []) (map (node_row p) (nodes_by names new_nodes))
            waiting old new adds.branches b taken
            (ap (map (node_row p)) nodes_are ∙ map-append (node_row p) (nodes_by names nodes) (node ∷ []) ∙ ap (λ r. front ++ r ∷ []) row)
            adds.added (ap (λ r. branch_row p names b ∷ r) (sym is.0) ∙ sym (flat_map-cons whole b [] ∙ append-nil (whole b))) is.1 so_far.rows;
        keys = subst (All (λ (n : PathNode). IsKeyOf p n.key)) (sym nodes_are) (All-push (λ (n : PathNode). IsKeyOf p n.key) (nodes_by names nodes) node so_far.keys
            (subst (λ m. IsKeyOf p (node_by names m).key) (sym n_is) (names_are b.key no_key layable.key_below)));
        sizes = omega (
          arith,
          so_far.sizes,
          branch_sizes p names texts can most (b.depth + 1) (branch_samples b) adds.branches adds.are adds.sorted,
          ap (λ (r : TreeRow Written). nat_abs r.flat) row,
          ap nat_abs layable.flat_is,
          ap (sum_by size) nodes_are ∙ sum_by_push size (nodes_by names nodes) node,
          ap (sum_by load) taken ∙ sum_by_push load old b,
          sum_waiting load old new adds.branches adds.added,
        );
      }

  -- no branch waits any more
  pub laying_end : (nodes : List NumberedNode) (waiting : List Branch) → waiting ≡ [] → Laying p names S nodes waiting → map (node_row p) (nodes_by names nodes) ≡ all_rows
  laying_end nodes waiting none so_far =
      whole_end (IsLayable names most) (flat_map (whole_branch p names most)) all_rows (map (node_row p) (nodes_by names nodes)) waiting refl none so_far.rows
