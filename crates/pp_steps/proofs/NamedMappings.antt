-- Two ways to know that each mapping of merges that are merged again is the first of all that is one with it.
use Rattle.std.proofs.Common.{◌≡◌, ℕ, Bool, true, false, true≢false, ◌||◌, List, [], ◌∷◌, ◌++◌, map, refl, sym, ap, ◌∙◌, subst}
use Rattle.std.specs.Prelude.{Option, None, Some, find, if◌then◌else◌}
use Rattle.std.specs.List.{AllByRecursion, flat_map, list_any}
use Rattle.std.specs.Option.{option_or, unwrap_or}
use Rattle.std.proofs.lemmas.List.Folds.{flat_map-map}
use Rattle.std.proofs.lemmas.Option.{none-some}
use Rattle.pp_base.proofs.Lists.{all_by}
use Rattle.pp_share.specs.Described.{MappingText, mapping_text}
use Rattle.pp_share.specs.Alike.{same_mapping, first_alike}
use Rattle.pp_share.specs.Written.{mappings}
use Rattle.pp_share.proofs.MergedMapping.{IsFound, find_congr}
use Rattle.pp_share.proofs.NumberedLemmas.{all_both, all_parts}
use Rattle.pp_merge.specs.Merge.{all_mappings, contents}
use Rattle.pp_merge.specs.Settled.{IsSettled}
use Rattle.pp_merge.proofs.SettledLemmas.{all_flat, found_holds}
use Rattle.pp_merge.proofs.WrittenAgain.{mappings_back}
use Rattle.pp_steps.specs.Premises.{GroupsAddUp, HasEqualMappings, HasFirstMappings, LosesNoMapping}
use Rattle.pp_steps.specs.Steps.{Group, all_sources, merged_group, in_steps}
use Rattle.pp_steps.proofs.Remapping.{IsChosen, found_alike}
use Rattle.pp_steps.proofs.SteppedMerges.{steps_settled}
use Rattle.pp_steps.proofs.SteppedSamples.{all_settled, by_groups, contents_of, group_mappings, merge_mappings, merged_chosen}
use Rattle.pp_steps.proofs.SumsOfSums.{flat_map_agree}

-- what is found among lists one behind the other
find-append : {A : Type 0} (test : A → Bool) (xs ys : List A) → find test (xs ++ ys) ≡ option_or (find test xs) (find test ys)
find-append test [] ys = refl
find-append test (x ∷ xs) ys = by (test x) (find-append test xs ys)
  where
    by : (b : Bool) → find test (xs ++ ys) ≡ option_or (find test xs) (find test ys)
        → (if b then Some x else find test (xs ++ ys)) ≡ option_or (if b then Some x else find test xs) (find test ys)
    by true rest = refl
    by false rest = rest

find_flat : {X A : Type 0} (test : A → Bool) (f h : X → List A) (xs : List X) → AllByRecursion (λ x. find test (f x) ≡ find test (h x)) xs → find test (flat_map f xs) ≡ find test (flat_map h xs)
find_flat test f h [] same = refl
find_flat test f h (x ∷ xs) same =
    find-append test (f x) (flat_map f xs)
    ∙ (λ j. option_or (same.0 j) (find_flat test f h xs same.1 j))
    ∙ sym (find-append test (h x) (flat_map h xs))

-- one that passes a test is found
pub found_of : (m : MappingText) (ms : List MappingText) → list_any (same_mapping m) ms ≡ true → IsFound ms m
found_of m [] h = absurd (true≢false (sym h))
found_of m (y ∷ ys) h = by (same_mapping m y) (found_of m ys) h
  where
    by : (b : Bool) → (list_any (same_mapping m) ys ≡ true → IsFound ys m) → (b || list_any (same_mapping m) ys) ≡ true → (x : MappingText) × ((if b then Some y else find (same_mapping m) ys) ≡ Some x)
    by true go is = (y, refl)
    by false go is = go is

module _ (all some : List MappingText) where
  -- a mapping that is the first one is among them
  first_itself : (m : MappingText) (is : IsChosen all m) → find (same_mapping m) all ≡ Some m
  first_itself m is = is.found.1 ∙ ap Some (sym (ap (λ o. unwrap_or o m) is.found.1) ∙ is.one)

  -- among first ones of all, of which none is left out, the same is found
  find_alike : AllByRecursion (IsChosen all) some → AllByRecursion (IsFound some) all → (m : MappingText) → find (same_mapping m) some ≡ find (same_mapping m) all
  find_alike chosen there m = by (find (same_mapping m) some) refl
    where
      none : find (same_mapping m) some ≡ None → (o : Option MappingText) → find (same_mapping m) all ≡ o → None ≡ o
      none is None at = refl
      none is (Some x) at =
          let (found, passes) = found_holds (IsFound some) (same_mapping m) all there x at in
          let (y, here) = found_alike some m x passes found in
          absurd (none-some y (sym is ∙ here))

      by : (o : Option MappingText) → find (same_mapping m) some ≡ o → o ≡ find (same_mapping m) all
      by None is = none is (find (same_mapping m) all) refl
      by (Some y) is =
          let (one, passes) = found_holds (IsChosen all) (same_mapping m) some chosen y is in
          sym (find_congr m y passes all ∙ first_itself y one)

  -- what holds of all holds of the first ones
  holds_of_first : (P : MappingText → Type 0) → AllByRecursion P all → (m : MappingText) → IsChosen all m → P m
  holds_of_first P each m is = (found_holds P (same_mapping m) all each m (first_itself m is)).0

module _ (columns : ℕ) (g : Group) (groups : List Group) (up : GroupsAddUp columns (g ∷ groups)) where
  abbrev own : List MappingText
  own = all_mappings (all_sources (g ∷ groups))

  abbrev kept : List MappingText
  kept = all_mappings (map merged_group (g ∷ groups))

  settled : AllByRecursion (λ x. IsSettled (contents_of x)) (g ∷ groups)
  settled = all_settled columns (g ∷ groups) up

  -- the mappings of the merges, group by group
  kept_by_groups : kept ≡ flat_map (λ x. mappings (contents_of x)) (g ∷ groups)
  kept_by_groups =
      flat_map-map (λ q. map (mapping_text q) q.mapping) merged_group (g ∷ groups)
      ∙ flat_map_agree (λ x. map (mapping_text (merged_group x)) (merged_group x).mapping) (λ x. mappings (contents_of x)) (g ∷ groups)
      (all_by _ _ (λ x is. merge_mappings columns (g ∷ groups) up x is) (g ∷ groups) settled)

  -- what holds of the mappings in steps holds of those that are left
  of_steps : (P : MappingText → Type 0) → AllByRecursion P (mappings (contents (merged_group g) (map merged_group groups))) → AllByRecursion P (all_mappings (in_steps g groups ∷ []))
  of_steps P each = subst (AllByRecursion P) (sym (mappings_back (contents (merged_group g) (map merged_group groups)) (steps_settled columns g groups up))) each

  steps_chosen : AllByRecursion (IsChosen kept) (mappings (contents (merged_group g) (map merged_group groups)))
  steps_chosen = merged_chosen (merged_group g) (map merged_group groups)

  -- Where each group keeps its mappings, each that is left is the first.
  pub kept_are_first : AllByRecursion LosesNoMapping (g ∷ groups) → HasFirstMappings (all_sources (g ∷ groups)) (in_steps g groups)
  kept_are_first keep =
      of_steps (λ m. first_alike own m ≡ m)
      (all_by (IsChosen kept) _ (λ m is. ap (λ o. unwrap_or o m) (sym (same_found m)) ∙ is.one) (mappings (contents (merged_group g) (map merged_group groups))) steps_chosen)
    where
      group_found : (m : MappingText) → AllByRecursion (λ x. find (same_mapping m) (mappings (contents_of x)) ≡ find (same_mapping m) (group_mappings x)) (g ∷ groups)
      group_found m =
          all_by _ _ (λ x is. find_alike (group_mappings x) (mappings (contents_of x)) (merged_chosen x.first x.others)
          (all_by _ _ (λ y there. found_of y (mappings (contents_of x)) (ap (list_any (same_mapping y)) (sym (mappings_back (contents_of x) is.0)) ∙ there)) (group_mappings x) is.1) m)
          (g ∷ groups) (all_both _ _ (g ∷ groups) settled keep)

      same_found : (m : MappingText) → find (same_mapping m) kept ≡ find (same_mapping m) own
      same_found m =
          ap (find (same_mapping m)) kept_by_groups
          ∙ find_flat (same_mapping m) (λ x. mappings (contents_of x)) group_mappings (g ∷ groups) (group_found m)
          ∙ ap (find (same_mapping m)) (sym (by_groups columns (g ∷ groups) up))

  -- Where mappings that are one are equal, each is the first.
  pub equal_are_first : HasEqualMappings (all_sources (g ∷ groups)) → HasFirstMappings (all_sources (g ∷ groups)) (in_steps g groups)
  equal_are_first equal =
      of_steps (λ m. first_alike own m ≡ m)
      (all_by (IsChosen kept) _ (holds_of_first kept [] (λ m. first_alike own m ≡ m) kept_equal) (mappings (contents (merged_group g) (map merged_group groups))) steps_chosen)
    where
      kept_equal : AllByRecursion (λ m. first_alike own m ≡ m) kept
      kept_equal =
          subst (AllByRecursion (λ m. first_alike own m ≡ m)) (sym kept_by_groups)
          (all_flat _ (λ x. mappings (contents_of x)) (g ∷ groups)
          (all_by _ _ (λ x each. all_by (IsChosen (group_mappings x)) _ (holds_of_first (group_mappings x) [] (λ m. first_alike own m ≡ m) each) (mappings (contents_of x)) (merged_chosen x.first x.others))
          (g ∷ groups)
          (all_parts (λ m. first_alike own m ≡ m) group_mappings (g ∷ groups) (subst (AllByRecursion (λ m. first_alike own m ≡ m)) (by_groups columns (g ∷ groups) up) equal))))
