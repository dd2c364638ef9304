-- The paths of a call tree, listed branch by branch.
use Rattle.std.proofs.Common.{◌≡◌, ℕ, ◌+◌, ◌-◌, ◌<◌, ◌≤◌, true, false, cond, not, pos, List, [], ◌∷◌, ◌++◌, length, take, drop, map, get_or, All, refl, sym, ap, subst, ◌∙◌, arith}
use Rattle.std.specs.Prelude.{flat_map}
use Rattle.std.specs.List.{filter}
use Rattle.std.specs.Ordering.{int_eq}
use Rattle.std.proofs.lemmas.Grind.{flat_map-append}
use Rattle.std.proofs.lemmas.List.{append-nil, length-map, map-append, take-append-drop}
use Rattle.std.proofs.lemmas.List.Concat.{flat_map-cons}
use Rattle.std.proofs.lemmas.List.Elements.{All-nil, All-cons, All-head, All-append, filter-append}
use Rattle.pp_model.specs.declared.profile.Profile.{Profile}
use Rattle.pp_model.specs.FrameTexts.{Written}
use Rattle.pp_grain.specs.declared.key.Key.{Key}
use Rattle.pp_grain.specs.Keys.{key_cmp, IsKeyOf}
use Rattle.pp_count.specs.Sums.{Seen, sum_where}
use Rattle.pp_count.specs.Table.{no_key, written_key}
use Rattle.pp_calltree.specs.declared.branch.Branch.{Branch}
use Rattle.pp_calltree.specs.declared.listing.PathSum.{PathSum}
use Rattle.pp_calltree.specs.declared.path.Path.{Path}
use Rattle.pp_calltree.specs.declared.texts.NameTexts.{NameTexts}
use Rattle.pp_calltree.specs.Branches.{Said, branch_samples}
use Rattle.pp_calltree.specs.CallPaths.{CallPath, all_paths, has_sum, path_written, paths_below, HasKeysOf}
use Rattle.pp_calltree.specs.CallTree.{all_lengths, is_end}
use Rattle.pp_calltree.specs.Laid.{written_out, CanLay, HasRoom}
use Rattle.pp_calltree.specs.Listed.{first_path, trail, branch_paths, summed_paths, unless_zero, AddsBranches, BeginsWith, GoesOnFrom, HasNumbersBelow, IsListable, PassesOn}
use Rattle.pp_calltree.specs.Paths.{below}
use Rattle.pp_calltree.proofs.Alone.{alone}
use Rattle.pp_calltree.proofs.LaidOut.{laid, paths_laid}
use Rattle.pp_calltree.proofs.Trails.{is_trailed, trail_is}
use Rattle.pp_calltree.proofs.Under.{all_lengths-renamed, is_end-renamed, sum_where-renamed}
use Rattle.pp_calltree.proofs.Waiting.{next_holds, whole_start, whole_more, whole_end, MakesWhole}

-- what holds of a path holds of it where it is listed
all_unless : (P : PathSum → Type 0) (path : PathSum) → P path → All P (unless_zero path)
all_unless P path here = elim (int_eq path.sum (pos 0)) as (λ b. All P (cond b [] (path ∷ []))) [
  | true ↦ All-nil P
  | false ↦ All-cons P path [] here (All-nil P)
]

module _ (p : Profile) (names : List Key) (most : ℕ) where
  abbrev write : PathSum → CallPath Written
  write = path_written p names

  abbrev summed : List Branch → List (CallPath Written)
  summed = summed_paths p names most

  summed-append : (xs ys : List Branch) → summed (xs ++ ys) ≡ summed xs ++ summed ys
  summed-append xs ys =
      ap (filter has_sum) (flat_map-append (branch_paths p names most) xs ys) ∙ filter-append has_sum (flat_map (branch_paths p names most) xs) (flat_map (branch_paths p names most) ys)

  summed_one : (b : Branch) → summed (b ∷ []) ≡ filter has_sum (branch_paths p names most b)
  summed_one b = ap (filter has_sum) (flat_map-cons (branch_paths p names most) b [] ∙ append-nil (branch_paths p names most b))

  -- a path is listed where it has a sum
  write_unless : (path : PathSum) → map write (unless_zero path) ≡ filter has_sum (write path ∷ [])
  write_unless path = elim (int_eq path.sum (pos 0)) as (λ b. map write (cond b [] (path ∷ [])) ≡ cond (not b) (write path ∷ []) []) [
    | true ↦ refl
    | false ↦ refl
  ]

  -- One path alone goes through the branch, and is listed whole.
  module _ (b : Branch) (x : Path) (only : b.paths.now ≡ x ∷ []) (listable : IsListable names most b) where
    abbrev rest : List ℕ
    rest = drop (b.depth + 1) x.keys.now

    trail_of : trail b ≡ take (b.depth + 1) x.keys.now
    trail_of = ap (λ ps. take (b.depth + 1) (first_path ps)) only

    whole : trail b ++ rest ≡ x.keys.now
    whole = ap (λ ks. ks ++ rest) trail_of ∙ take-append-drop (b.depth + 1) x.keys.now

    own_samples : branch_samples b ≡ record { value = x.value; keys = rest } ∷ []
    own_samples = ap (below (b.depth + 1)) only

    own_flat : b.flat ≡ sum_where is_end (record { value = x.value; keys = map (written_key p names) rest } ∷ [])
    own_flat =
        listable.layable.flat_is ∙ ap (sum_where is_end) own_samples
        ∙ sym (sum_where-renamed (written_key p names) is_end is_end (is_end-renamed (written_key p names)) (record { value = x.value; keys = rest } ∷ []))

    short : length (map (written_key p names) rest) ≤ most - (b.depth + 1)
    short = omega (
      arith,
      length-map rest (written_key p names),
      All-head (λ (s : Seen ℕ). length s.keys ≤ most - (b.depth + 1)) (record { value = x.value; keys = rest }) []
          (subst (All (λ (s : Seen ℕ). length s.keys ≤ most - (b.depth + 1))) own_samples listable.layable.room.short),
    )

    alone_paths : filter has_sum (branch_paths p names most b) ≡ filter has_sum (record { keys = map (written_key p names) x.keys.now; sum = x.value } ∷ [])
    alone_paths =
        (λ i. filter has_sum (record { keys = map (written_key p names) (trail b); sum = own_flat i }
        ∷ paths_below key_cmp (most - (b.depth + 1)) (map (written_key p names) (trail b)) (written_out p names (own_samples i))))
        ∙ alone (most - (b.depth + 1)) (map (written_key p names) (trail b)) x.value (map (written_key p names) rest) short
        ∙ ap (λ ks. filter has_sum (record { keys = ks; sum = x.value } ∷ []))
        (sym (map-append (written_key p names) (trail b) rest) ∙ ap (map (written_key p names)) whole)

    known : All (λ k. k < length names) x.keys.now
    known = subst (All (λ k. k < length names)) whole (All-append (λ k. k < length names) (trail b) rest listable.trailed.below
        (All-head (λ (s : Seen ℕ). All (λ k. k < length names) s.keys) (record { value = x.value; keys = rest }) []
        (subst (All (λ (s : Seen ℕ). All (λ k. k < length names) s.keys)) own_samples listable.layable.room.below)))

    pub passes_alone : (path : PathSum) (old new : List Branch) (before after : List PathSum) → path.keys.now ≡ x.keys.now → path.sum ≡ x.value
        → after ≡ before ++ unless_zero path → new ≡ old → PassesOn p names most b old new before after
    passes_alone path old new before after keys_are sum_is lists same = record {
      listed = unless_zero path;
      branches = [];
      lists = lists;
      added = same ∙ sym (append-nil old);
      paths = append-nil (map write (unless_zero path)) ∙ write_unless path
          ∙ (λ i. filter has_sum (record { keys = map (written_key p names) (keys_are i); sum = sum_is i } ∷ []))
          ∙ sym (summed_one b ∙ alone_paths);
      listable = All-nil (IsListable names most);
      below = all_unless (HasNumbersBelow (length names)) path (subst (All (λ k. k < length names)) (sym keys_are) known);
      lighter = omega arith;
    }

  -- The branches that are added below these keys: the paths that go on from there, and that they can be listed.
  module _ (texts : NameTexts) (can : CanLay p names texts) (depth left : ℕ) (above : List ℕ) (paths : List Path) (old new : List Branch) (room : HasRoom names left (below depth paths))
      (same : most ≡ depth + left) (deep : length above ≡ depth) (begin : All (BeginsWith above) paths) (known_above : All (λ k. k < length names) above)
      (adds : AddsBranches texts depth paths old new) where
    on : All (GoesOnFrom above) adds.branches
    on = adds.go_on above deep begin

    depths : All (λ (b : Branch). b.depth ≡ length above) adds.branches
    depths i d here = ap (λ (s : Said). s.depth) (adds.are.are.said_are i d here) ∙ sym deep

    paths_added : paths_below key_cmp left (map (written_key p names) above) (written_out p names (below depth paths)) ≡ flat_map (branch_paths p names most) adds.branches
    paths_added =
        paths_laid p names texts can most depth (below depth paths) adds.branches adds.are adds.sorted above
        (λ i d here. trail_is above (get_or adds.branches i d) (depths i d here) (on i d here)) left room same

    listable_added : All (IsListable names most) adds.branches
    listable_added i d here =
        let layable = (laid p names texts can most depth (below depth paths) adds.branches adds.are adds.sorted left room same).1 i d here in
        record { layable = layable; trailed = is_trailed (length names) above (get_or adds.branches i d) (depths i d here) (on i d here) known_above layable.key_below }

  -- The path of the branch is listed, and those below it wait.
  pub passes_more : (texts : NameTexts) → CanLay p names texts → (b : Branch) (path : PathSum) (old new : List Branch) (before after : List PathSum) → IsListable names most b
      → path.keys.now ≡ trail b → path.sum ≡ b.flat → after ≡ before ++ unless_zero path → AddsBranches texts (b.depth + 1) b.paths.now old new
      → PassesOn p names most b old new before after
  passes_more texts can b path old new before after listable keys_are sum_is lists adds =
      let own : CallPath Written = record { keys = map (written_key p names) (trail b); sum = b.flat } in
      let left : ℕ = most - (b.depth + 1) in
      let further : List (CallPath Written) = paths_below key_cmp left (map (written_key p names) (trail b)) (written_out p names (branch_samples b)) in
      let room = listable.layable.room in
      let same : most ≡ (b.depth + 1) + left = omega (arith, listable.layable.depth_fits) in
      let trailed = listable.trailed in
      record {
        listed = unless_zero path;
        branches = adds.branches;
        lists = lists;
        added = adds.added;
        paths = (λ i. write_unless path i ++ filter has_sum (sym (paths_added texts can (b.depth + 1) left (trail b) b.paths.now old new room same trailed.long trailed.begin trailed.below adds) i))
            ∙ (λ i. filter has_sum (record { keys = map (written_key p names) (keys_are i); sum = sum_is i } ∷ []) ++ filter has_sum further)
            ∙ sym (summed_one b ∙ filter-append has_sum (own ∷ []) further);
        listable = listable_added texts can (b.depth + 1) left (trail b) b.paths.now old new room same trailed.long trailed.begin trailed.below adds;
        below = all_unless (HasNumbersBelow (length names)) path (subst (All (λ k. k < length names)) (sym keys_are) trailed.below);
        lighter = omega (arith, adds.are.lighter);
      }

-- The paths so far, and those of the branches that wait, are those of the samples whose sums aren't 0.
pub record Listing (p : Profile) (names : List Key) (samples : List (Seen ℕ)) (paths : List PathSum) (waiting : List Branch) : Type 0 where
  pub are : MakesWhole (IsListable names (all_lengths samples)) (summed_paths p names (all_lengths samples))
      (filter has_sum (all_paths key_cmp (written_out p names samples))) (map (path_written p names) paths) waiting
  pub below : All (HasNumbersBelow (length names)) paths

module _ (p : Profile) (names : List Key) (all : List Path) where
  abbrev S : List (Seen ℕ)
  S = below 0 all

  abbrev most : ℕ
  most = all_lengths S

  abbrev all_summed : List (CallPath Written)
  all_summed = filter has_sum (all_paths key_cmp (written_out p names S))

  -- the branches of all samples wait
  pub listing_start : (texts : NameTexts) → CanLay p names texts → (new : List Branch) (paths : List PathSum) → HasRoom names most S → paths ≡ [] → AddsBranches texts 0 all [] new
      → Listing p names S paths new
  listing_start texts can new paths room none adds =
      let same : most ≡ 0 + most = omega arith in
      let known : All (λ k. k < length names) [] = All-nil (λ k. k < length names) in
      record {
        are = whole_start (IsListable names most) (summed_paths p names most) all_summed (map (path_written p names) paths) new adds.branches (ap (map (path_written p names)) none) adds.added
            (ap (filter has_sum) (sym (paths_added p names most texts can 0 most [] all [] new room same refl (λ i d here. refl) known adds)
            ∙ ap (λ n. paths_below key_cmp n [] (written_out p names S)) (sym (all_lengths-renamed (written_key p names) S))))
            (listable_added p names most texts can 0 most [] all [] new room same refl (λ i d here. refl) known adds);
        below = subst (All (HasNumbersBelow (length names))) (sym none) (All-nil (HasNumbersBelow (length names)));
      }

  -- one more branch is passed
  pub listing_more : (waiting old new : List Branch) (b : Branch) (before after : List PathSum) → waiting ≡ old ++ b ∷ [] → PassesOn p names most b old new before after
      → Listing p names S before waiting → Listing p names S after new
  listing_more waiting old new b before after taken pass so_far = record {
    are = whole_more (IsListable names most) (summed_paths p names most) all_summed (summed-append p names most) (map (path_written p names) before) (map (path_written p names) pass.listed)
        (map (path_written p names) after) waiting old new pass.branches b taken (ap (map (path_written p names)) pass.lists ∙ map-append (path_written p names) before pass.listed)
        pass.added pass.paths pass.listable so_far.are;
    below = subst (All (HasNumbersBelow (length names))) (sym pass.lists) (All-append (HasNumbersBelow (length names)) before pass.listed so_far.below pass.below);
  }

  pub next_listable : (waiting old : List Branch) (b : Branch) (paths : List PathSum) → waiting ≡ old ++ b ∷ [] → Listing p names S paths waiting → IsListable names most b
  next_listable waiting old b paths taken so_far = next_holds waiting old b taken (IsListable names most) so_far.are.each

  -- no branch waits any more
  pub listing_end : (paths : List PathSum) (waiting : List Branch) → waiting ≡ [] → Listing p names S paths waiting → map (path_written p names) paths ≡ all_summed
  listing_end paths waiting none so_far =
      whole_end (IsListable names most) (summed_paths p names most) all_summed (map (path_written p names) paths) waiting refl none so_far.are

-- numbers of names are those of keys
pub known_keys : (p : Profile) (names : List Key) (paths : List PathSum) → All (IsKeyOf p) names → All (HasNumbersBelow (length names)) paths → All (HasKeysOf p names) paths
known_keys p names paths keys below = λ i d here j e within. keys (get_or (get_or paths i d).keys.now j e) no_key (below i d here j e within)
