-- Sources whose figures can be added up can be so in any order.
use Rattle.std.proofs.Common.{◌≡◌, ℕ, ◌<◌, ◌^◌, Bool, true, false, cond, List, [], ◌∷◌, ◌++◌, length, map, Option, Some, None, refl, sym, ap, subst, ◌∙◌, append-nil}
use Rattle.std.specs.Prelude.{find}
use Rattle.std.specs.List.{AllByRecursion}
use Rattle.std.specs.List.Sorted.{IsPermutation}
use Rattle.std.specs.Option.{unwrap_or}
use Rattle.std.proofs.lemmas.List.Sorted.{All-permutation}
use Rattle.std.proofs.lemmas.List.Elements.{All-from_recursion, recursion_from_All}
use Rattle.std.proofs.lemmas.Option.{none-some, same_Some}
use Rattle.pp_base.proofs.Lists.{all_by}
use Rattle.pp_model.specs.declared.config.Config.{Config}
use Rattle.pp_model.specs.declared.grouping.Grain.{Grain}
use Rattle.pp_model.specs.declared.profile.Profile.{Profile}
use Rattle.pp_share.specs.Alike.{same_mapping, first_alike}
use Rattle.pp_share.specs.Described.{MappingText, mapping_text}
use Rattle.pp_share.proofs.MergedMapping.{IsFound, find_congr}
use Rattle.pp_share.proofs.NumberedLemmas.{all_both, all_mapped}
use Rattle.pp_merge.specs.Merge.{all_mappings}
use Rattle.pp_merge.proofs.SettledLemmas.{found_holds, own_found}
use Rattle.pp_laws.specs.Merged.{AddUp, HasValues, IsPlacedAs, KeepsMappings}
use Rattle.pp_sums.proofs.Plain.{starts_said}

-- what is found in front
front : {X : Type 0} (test : X → Bool) (xs ys : List X) (y : X) → find test xs ≡ Some y → find test (xs ++ ys) ≡ Some y
front test [] ys y is = absurd (none-some y is)
front test (x ∷ xs) ys y is = elim (test x) as (λ b. cond b (Some x) (find test xs) ≡ Some y → cond b (Some x) (find test (xs ++ ys)) ≡ Some y) [
  | true ↦ λ found. found
  | false ↦ λ found. front test xs ys y found
] is

-- what is not found in front
behind : {X : Type 0} (test : X → Bool) (xs ys : List X) → find test xs ≡ None → find test (xs ++ ys) ≡ find test ys
behind test [] ys none = refl
behind test (x ∷ xs) ys none = elim (test x) as (λ b. cond b (Some x) (find test xs) ≡ None → cond b (Some x) (find test (xs ++ ys)) ≡ find test ys) [
  | true ↦ λ gone. absurd (none-some x (sym gone))
  | false ↦ λ gone. behind test xs ys gone
] none

module _ (grain : Grain) (ps : List Profile) where
  abbrev all : List MappingText
  all = all_mappings ps

  -- The first mapping that is one with another is placed as what that becomes among all.
  found_placed : (rs : List Profile) → AllByRecursion (KeepsMappings grain ps) rs → (t x : MappingText) → IsFound all t
      → find (same_mapping t) (all_mappings rs) ≡ Some x → IsPlacedAs grain (first_alike all t) x
  found_placed [] keeps t x known is = absurd (none-some x is)
  found_placed (r ∷ rs) keeps t x known is = by (find (same_mapping t) (map (mapping_text r) r.mapping)) refl (λ more. found_placed rs keeps.1 t x known more)
    where
      by : (o : Option MappingText) → find (same_mapping t) (map (mapping_text r) r.mapping) ≡ o
          → (find (same_mapping t) (all_mappings rs) ≡ Some x → IsPlacedAs grain (first_alike all t) x) → IsPlacedAs grain (first_alike all t) x
      by None none rest = rest (sym (behind (same_mapping t) (map (mapping_text r) r.mapping) (all_mappings rs) none) ∙ is)
      by (Some y) here rest =
          let one : y ≡ x = same_Some y x (sym (front (same_mapping t) (map (mapping_text r) r.mapping) (all_mappings rs) y here) ∙ is) in
          let held = found_holds (λ z. IsPlacedAs grain (first_alike all z) (first_alike (all_mappings (r ∷ [])) z)) (same_mapping t) (map (mapping_text r) r.mapping)
          (all_mapped (λ z. IsPlacedAs grain (first_alike all z) (first_alike (all_mappings (r ∷ [])) z)) (mapping_text r) r.mapping keeps.0) y here in
          let among : first_alike all y ≡ first_alike all t =
          ap (λ o. unwrap_or o y) (sym (find_congr t y held.1 all) ∙ known.1) ∙ ap (λ o. unwrap_or o t) (sym known.1) in
          let alone : first_alike (all_mappings (r ∷ [])) y ≡ y =
          ap (λ o. unwrap_or o y) (ap (find (same_mapping y)) (append-nil (map (mapping_text r) r.mapping)) ∙ sym (find_congr t y held.1 (map (mapping_text r) r.mapping)) ∙ here) in
          subst (λ z. IsPlacedAs grain (first_alike all t) z) (alone ∙ one)
          (subst (λ z. IsPlacedAs grain z (first_alike (all_mappings (r ∷ [])) y)) among held.0)

module _ (p q : Profile) (ps qs : List Profile) (config : Config) (column : ℕ) (moved : IsPermutation (p ∷ ps) (q ∷ qs)) (can : AddUp p ps config column) where
  moves : (P : Profile → Type 0) → AllByRecursion P (p ∷ ps) → AllByRecursion P (q ∷ qs)
  moves P held = recursion_from_All P (q ∷ qs) (All-permutation P (p ∷ ps) (q ∷ qs) moved (All-from_recursion P (p ∷ ps) held))

  -- the profile's mappings are found among those of these
  abbrev Found : List Profile → Profile → Type 0
  Found rs r = AllByRecursion (λ m. IsFound (all_mappings rs) (mapping_text r m)) r.mapping

  starts : AllByRecursion (λ r. AllByRecursion (λ m. m.start < 2 ^ 64) r.mapping) (q ∷ qs)
  starts = moves (λ r. AllByRecursion (λ m. m.start < 2 ^ 64) r.mapping) can.starts

  keeps : AllByRecursion (KeepsMappings config.grouping.grain (p ∷ ps)) (q ∷ qs)
  keeps = moves (KeepsMappings config.grouping.grain (p ∷ ps)) can.mappings

  each_keeps : (r : Profile) → KeepsMappings config.grouping.grain (p ∷ ps) r → Found (p ∷ ps) r → Found (q ∷ qs) r → KeepsMappings config.grouping.grain (q ∷ qs) r
  each_keeps r placed first second =
      all_by
      (λ m. (IsPlacedAs config.grouping.grain (first_alike (all_mappings (p ∷ ps)) (mapping_text r m)) (first_alike (all_mappings (r ∷ [])) (mapping_text r m)))
      × ((IsFound (all_mappings (p ∷ ps)) (mapping_text r m)) × (IsFound (all_mappings (q ∷ qs)) (mapping_text r m))))
      (λ m. IsPlacedAs config.grouping.grain (first_alike (all_mappings (q ∷ qs)) (mapping_text r m)) (first_alike (all_mappings (r ∷ [])) (mapping_text r m)))
      (λ m held.
      let t : MappingText = mapping_text r m in
      let there : IsPlacedAs config.grouping.grain (first_alike (all_mappings (p ∷ ps)) t) held.1.1.0 = found_placed config.grouping.grain (p ∷ ps) (q ∷ qs) keeps t held.1.1.0 held.1.0 held.1.1.1 in
      let becomes : first_alike (all_mappings (q ∷ qs)) t ≡ held.1.1.0 = ap (λ o. unwrap_or o t) held.1.1.1 in
      record {
        start = λ told. ap (λ (z : MappingText). z.start) becomes ∙ sym (there.start told) ∙ held.0.start told;
        file = ap (λ (z : MappingText). z.file) becomes ∙ sym there.file ∙ held.0.file;
      })
      r.mapping
      (all_both _ _ r.mapping placed (all_both _ _ r.mapping first second))

  types : AllByRecursion (λ r. length r.sample_type ≡ length p.sample_type) (q ∷ qs)
  types = moves (λ r. length r.sample_type ≡ length p.sample_type) can.types

  pub add_up_moved : AddUp q qs config column
  add_up_moved = record {
    within = subst (λ n. column < n) (sym types.0) can.within;
    types = all_by (λ r. length r.sample_type ≡ length p.sample_type) (λ r. length r.sample_type ≡ length q.sample_type) (λ r is. is ∙ sym types.0) (q ∷ qs) types;
    values = all_by (HasValues (length p.sample_type)) (HasValues (length q.sample_type)) (λ r own. subst (λ n. HasValues n r) (sym types.0) own) (q ∷ qs)
        (moves (HasValues (length p.sample_type)) can.values);
    starts = starts;
    mappings = all_by (λ r. (KeepsMappings config.grouping.grain (p ∷ ps) r) × ((Found (p ∷ ps) r) × (Found (q ∷ qs) r))) (KeepsMappings config.grouping.grain (q ∷ qs))
        (λ r of. each_keeps r of.0 of.1.0 of.1.1) (q ∷ qs)
        (all_both _ _ (q ∷ qs) keeps
        (all_both _ _ (q ∷ qs) (moves (Found (p ∷ ps)) (own_found p ps (starts_said (p ∷ ps) can.starts))) (own_found q qs (starts_said (q ∷ qs) starts))));
    divisor = can.divisor;
  }
