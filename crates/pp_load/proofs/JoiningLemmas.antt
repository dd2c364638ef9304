-- What is known of profiles while they become one.
use Rattle.std.proofs.Common.{◌≡◌, ℕ, zero, suc, ◌<◌, ◌≤◌, ◌^◌, List, [], ◌∷◌, length, take, drop, refl, sym, ap, ◌∙◌, subst, arith}
use Rattle.std.specs.Prelude.{Option, None, Some, Ok, Err, IfSome, is_some, nat_lt}
use Rattle.std.proofs.lemmas.Bool.{ltb-true}
use Rattle.std.specs.List.{AllByRecursion}
use Rattle.std.proofs.lemmas.List.{length-take, length-drop, length-map}
use Rattle.std.proofs.lemmas.List.Sums.{sum_by-take-drop}
use Rattle.pp_base.proofs.Lists.{all_by}
use Rattle.pp_model.specs.declared.profile.Profile.{Profile}
use Rattle.pp_model.specs.declared.report.BaseKind.{BaseKind}
use Rattle.pp_model.specs.declared.report.BaseKind.TheVariants.{Base, DiffBase}
use Rattle.pp_model.specs.Rules.{NoRuleFails}
use Rattle.pp_merge.specs.declared.refusal.MergeRefusal.{MergeRefusal}
use Rattle.pp_merge.specs.declared.refusal.MergeRefusal.TheVariants as merge
use Rattle.pp_merge.specs.Merge.{difference, too_large, merged, Merges}
use Rattle.pp_merge.specs.Scale.{negated, normalized, normalized_sample}
use Rattle.pp_merge.proofs.NegatedLemmas.{negated_agrees, negated_length, negated_valid}
use Rattle.pp_desk.specs.declared.halt.Halt.{Halt}
use Rattle.pp_load.specs.declared.refusal.LoadRefusal.{LoadRefusal}
use Rattle.pp_load.specs.declared.refusal.LoadRefusal.TheVariants as refusals
use Rattle.pp_load.specs.Steps.{unless, Loads}
use Rattle.pp_load.specs.Combine.{merging}
use Rattle.pp_load.specs.Joining.{Kinds, kinds, first_kinds, AreOf, AreCountableProfiles, AreMergeable, IsOneOf, CanTakeOff, CanTakeOffOne, HasStarts, halt_of}
use Rattle.pp_load.proofs.KindLemmas.{kinds_agree, agreed_kinds, none_disagree, nothing_found}
use Rattle.pp_load.proofs.CountLemmas.{as_many, merged_is_one, normalized_countable}

module _ {A : Type 0} (P : A → Type 0) where
  -- what holds of all holds of the first ones
  all_front : (n : ℕ) (xs : List A) → AllByRecursion P xs → AllByRecursion P (take n xs)
  all_front zero [] all = tt
  all_front zero (x ∷ xs) all = tt
  all_front (suc n) [] all = tt
  all_front (suc n) (x ∷ xs) all = (all.0, all_front n xs all.1)

  -- and of those behind them
  all_rest : (n : ℕ) (xs : List A) → AllByRecursion P xs → AllByRecursion P (drop n xs)
  all_rest zero [] all = tt
  all_rest zero (x ∷ xs) all = all
  all_rest (suc n) [] all = tt
  all_rest (suc n) (x ∷ xs) all = all_rest n xs all.1

few_front : (n : ℕ) (list : List Profile) → AreCountableProfiles list → AreCountableProfiles (take n list)
few_front n list few = record {
  valid = all_front NoRuleFails n list few.valid;
  starts = all_front HasStarts n list few.starts;
  long = omega (arith, few.long, length-take n list);
  columns = all_front (λ p. length p.sample_type < 2 ^ 32) n list few.columns;
  samples = omega (arith, few.samples, sum_by-take-drop (λ (p : Profile). length p.sample) list n);
}

few_rest : (n : ℕ) (list : List Profile) → AreCountableProfiles list → AreCountableProfiles (drop n list)
few_rest n list few = record {
  valid = all_rest NoRuleFails n list few.valid;
  starts = all_rest HasStarts n list few.starts;
  long = omega (arith, few.long, length-drop n list);
  columns = all_rest (λ p. length p.sample_type < 2 ^ 32) n list few.columns;
  samples = omega (arith, few.samples, sum_by-take-drop (λ (p : Profile). length p.sample) list n);
}

-- profiles of the same kinds are of the kinds of the first one
alike_of : (own : Kinds) (list : List Profile) → AreOf own list → AreOf (first_kinds list) list
alike_of own [] same = tt
alike_of own (p ∷ ps) same = all_by _ _ (λ q is. is ∙ sym same.0) (p ∷ ps) same

-- what is not empty has the kinds of its first
first_of : (own : Kinds) (list : List Profile) → AreOf own list → 0 < length list → first_kinds list ≡ own
first_of own [] same some = absurd (omega (arith, some))
first_of own (p ∷ ps) same some = same.0

-- the first profiles can be merged
pub front_joins : (n : ℕ) (list : List Profile) → AreCountableProfiles list → AreOf (first_kinds list) list → 0 < n → n ≤ length list → AreMergeable (take n list)
front_joins n list few alike some within = record {
  some = omega (arith, some, within, length-take n list);
  few = few_front n list few;
  alike = alike_of (first_kinds list) (take n list) (all_front (λ p. kinds p ≡ first_kinds list) n list alike);
}

-- what they were merged to can have the others taken off
pub rest_taken : (n : ℕ) (list : List Profile) (source : Profile) → AreCountableProfiles list → AreOf (first_kinds list) list → 0 < n → n < length list → IsOneOf (take n list) source
    → CanTakeOff source (drop n list)
rest_taken n list source few alike some within one =
    let front = all_front (λ p. kinds p ≡ first_kinds list) n list alike in
    let rest = all_rest (λ p. kinds p ≡ first_kinds list) n list alike in
    let some_front : 0 < length (take n list) = omega (arith, some, within, length-take n list) in
    let some_rest : 0 < length (drop n list) = omega (arith, within, length-drop n list) in
    record {
      joins = record { some = some_rest; few = few_rest n list few; alike = alike_of (first_kinds list) (drop n list) rest };
      countable = one.ready.countable;
      starts = one.starts;
      of_kinds = one.of_kinds ∙ first_of (first_kinds list) (take n list) front some_front ∙ sym (first_of (first_kinds list) (drop n list) rest some_rest);
      few = omega (arith, one.few, few.samples, sum_by-take-drop (λ (p : Profile). length p.sample) list n);
    }

-- where there are bases, they can be taken off
pub bases_taken : (kind : Option BaseKind) (n : ℕ) (list : List Profile) (source : Profile) → AreCountableProfiles list → AreOf (first_kinds list) list → 0 < n
    → is_some kind ≡ nat_lt n (length list) → IsOneOf (take n list) source → IfSome kind (λ _. CanTakeOff source (drop n list))
bases_taken None n list source few alike some bases one = tt
bases_taken (Some kind) n list source few alike some bases one = rest_taken n list source few alike some (ltb-true n (length list) (sym bases)) one

-- What merging gives of profiles that can be merged is one of them.
pub one_of : (list : List Profile) (r : Profile) → AreMergeable list → merging list ≡ Ok r → IsOneOf list r
unfolding merging
one_of [] r can is = absurd (omega (arith, can.some))
one_of (p ∷ ps) r can is =
    let found = nothing_found (too_large (length p.sample_type) (p ∷ ps)) _ (merged p ps) r is in
    subst (IsOneOf (p ∷ ps)) found.1 (merged_is_one p ps can.few can.alike found.0)

-- the profiles were merged
pub merge_gives : (list : List Profile) (r : Profile) → AreMergeable list → Merges list (Ok r) → Loads (merging list) (Ok r)
unfolding merging Loads
merge_gives [] r can is = absurd (omega (arith, can.some))
merge_gives (p ∷ ps) r can is = ap (λ o. unless o refusals.TotalTooLarge (merged p ps)) is.1.0 ∙ ap (λ q. Ok q) (sym is.1.1)

pub merge_one : (list : List Profile) (r : Profile) → AreMergeable list → Merges list (Ok r) → IsOneOf list r
unfolding Loads
merge_one list r can is = one_of list r can (merge_gives list r can is)

some_of : {A : Type 0} (x : A) → None ≡ Some x → ⊥
some_of x h = absurd cc

refused : (list : List Profile) (e : MergeRefusal) → 0 < length list → AreOf (first_kinds list) list → Merges list (Err e) → Loads (merging list) (Err (halt_of e))
unfolding merging Loads
refused [] e some alike is = absurd (omega (arith, some))
refused (p ∷ ps) (merge.Incompatible source what) some alike is = absurd (some_of (source, what) (sym (none_disagree p 1 ps alike.1) ∙ is))
refused (p ∷ ps) (merge.TotalTooLarge column) some alike is = ap (λ o. unless o refusals.TotalTooLarge (merged p ps)) is.1
refused (p ∷ ps) merge.Memory some alike is = refl

-- the profiles were not merged
pub merge_halts : (list : List Profile) (e : MergeRefusal) (h : Halt LoadRefusal) → AreMergeable list → Merges list (Err e) → h ≡ halt_of e → Loads (merging list) (Err h)
merge_halts list e h can is same = subst (λ k. Loads (merging list) (Err k)) (sym same) (refused list e can.some can.alike is)

-- what is needed where profiles are merged
pub ruleset joins = (merge_gives, merge_one, merge_halts)

-- the base that the bases were merged to can be taken off
pub pair_of : (source base : Profile) (bases : List Profile) → CanTakeOff source bases → IsOneOf bases base → CanTakeOffOne source base
pair_of source base bases can one = record {
  source_countable = can.countable;
  base_countable = one.ready.countable;
  source_starts = can.starts;
  base_starts = one.starts;
  of_kinds = can.of_kinds ∙ sym one.of_kinds;
  few = omega (arith, can.few, one.few);
}

-- and so it can where the source was scaled
pub scaled_pair : (source base : Profile) → CanTakeOffOne source base → CanTakeOffOne (normalized source base) base
scaled_pair source base pair = record {
  source_countable = normalized_countable source base pair.source_countable pair.base_countable pair.of_kinds;
  base_countable = pair.base_countable;
  source_starts = pair.source_starts;
  base_starts = pair.base_starts;
  of_kinds = pair.of_kinds;
  few = omega (arith, pair.few, length-map source.sample (normalized_sample source base));
}

-- the two agree
pub pair_agrees : (source base : Profile) → CanTakeOffOne source base → difference source base ≡ None
pair_agrees source base pair = kinds_agree source base (sym pair.of_kinds)

-- what is needed where a source is scaled
pub ruleset pairs = (pair_agrees, scaled_pair)

-- the mappings of a base that is negated stay
negated_starts : (kind : BaseKind) (p : Profile) → HasStarts p → HasStarts (negated kind p)
negated_starts Base p starts = starts
negated_starts DiffBase p starts = starts

-- the source and the negated base can be merged
pub pair_joins : (kind : BaseKind) (source base : Profile) → NoRuleFails source → NoRuleFails base → CanTakeOffOne source base → AreMergeable (source ∷ negated kind base ∷ [])
pair_joins kind source base valid base_valid pair =
    let negative = negated kind base in
    let own : kinds negative ≡ kinds base = agreed_kinds base negative (negated_agrees kind base base base_valid ∙ kinds_agree base base refl) in
    let same : kinds negative ≡ kinds source = own ∙ sym pair.of_kinds in
    record {
      some = omega arith;
      few = record {
        valid = (valid, (negated_valid kind base base_valid, tt));
        starts = (pair.source_starts, (negated_starts kind base pair.base_starts, tt));
        long = omega arith;
        columns = (pair.source_countable.columns, (omega (arith, pair.source_countable.columns, as_many negative source same), tt));
        samples = omega (arith, pair.few, negated_length kind base);
      };
      alike = (refl, (same, tt));
    }
