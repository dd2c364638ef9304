-- A scan of ids from the front, which stops at the first one that stands earlier.
use Rattle.std.proofs.Common.{◌≡◌, ◌+◌, ◌<◌, ℕ, List, Bool, true, false, length, take, map, get_or, sym, ap, subst, ◌∙◌, below_more}
use Rattle.std.specs.Prelude.{◌==◌, ◌||◌, Some, None, not, slice_index}
use Rattle.std.proofs.lemmas.Bool.{not-true, not-false}
use Rattle.std.proofs.lemmas.List.{get_or-map}
use Rattle.pp_model.specs.Rules.{first_repeated, stands_in}
use Rattle.pp_check.specs.declared.known.IdSet.{IdSet}
use Rattle.pp_check.specs.Known.{holds, Knows, Inserts}
use Rattle.pp_check.proofs.Repeats.{repeats, NoneBelow, repeats_first, repeats_nowhere, stands_in_more}

-- the ids below the index are known, and none of them stands earlier
pub record Scanned (known : IdSet) (ids : List ℕ) (i : ℕ) : Type 0 where
  pub seen : Knows known (take i ids)
  pub distinct : NoneBelow ids i

-- the id of the item at the index
pub id_at : {T : Type 0} (id_of : T → ℕ) (items : List T) (i : ℕ) (x : T) → i < length items → x ≡ get_or items i x → id_of x ≡ slice_index (map id_of items) i
id_at id_of items i x within is = ap id_of is ∙ sym (get_or-map id_of items i x 0 within)

-- whether the id at the index is known says whether it stands earlier
seen_before : (known : IdSet) (ids : List ℕ) (i id : ℕ) → Scanned known ids i → id ≡ slice_index ids i → holds known id ≡ repeats ids i
seen_before known ids i id scanned is = scanned.seen id ∙ ap (stands_in (take i ids)) is

-- an id that is not new is the first that stands earlier
pub found_again : (known : IdSet) (ids : List ℕ) (i id : ℕ) (added : Bool) → i < length ids → Scanned known ids i → id ≡ slice_index ids i
    → added ≡ not (holds known id) → added ≡ false → Some i ≡ first_repeated ids
found_again known ids i id added within scanned is new not_new =
    repeats_first ids i within scanned.distinct (sym (seen_before known ids i id scanned is) ∙ not-false _ (sym new ∙ not_new))

-- one more id of the list is known
knows_more : (old new : IdSet) (ids : List ℕ) (i : ℕ) → i < length ids → Knows old (take i ids) → Inserts old new (slice_index ids i) → Knows new (take (i + 1) ids)
knows_more old new ids i within known adds = λ id.
    adds id ∙ ap (λ b. b || slice_index ids i == id) (known id) ∙ sym (stands_in_more ids i id within)

-- the scan goes on past a new id
pub scanned_more : (old new : IdSet) (ids : List ℕ) (i id : ℕ) (added : Bool) → i < length ids → Scanned old ids i → id ≡ slice_index ids i
    → added ≡ not (holds old id) → added ≡ true → Inserts old new id → Scanned new ids (i + 1)
scanned_more old new ids i id added within scanned is new_id added_true adds = record {
  seen = knows_more old new ids i within scanned.seen (subst (λ j. Inserts old new j) is adds);
  distinct = below_more (λ k. repeats ids k ≡ false) i scanned.distinct (sym (seen_before old ids i id scanned is) ∙ not-true _ (sym new_id ∙ added_true));
}

-- past the last id none stands earlier
pub scanned_all : (known : IdSet) (ids : List ℕ) (i : ℕ) → i ≡ length ids → Scanned known ids i → None ≡ first_repeated ids
scanned_all known ids i past scanned = repeats_nowhere ids i past scanned.distinct
