use Rattle.std.proofs.Common.{◌≡◌, ℕ, Bool, false, List, map, ap, ◌∙◌, Bor, rules}
use Rattle.std.specs.Prelude.{Option, None}
use Rattle.std.specs.Fn.{CalledAt}
use Rattle.std.specs.Iterator.{Yields}
use Rattle.std.specs.List.{filter, slice_split}
use Rattle.std.specs.Slice.Iter.{split_steps, split_rest, split_done, split_callee}
use Rattle.std.specs.declared.slice.Split.{Split}
use Rattle.std.proofs.lemmas.Iterator.Consumers.{YieldsList-end, YieldsList-at}
use Rattle.std.proofs.lemmas.Iterator.Splits.{YieldsList-from_slice_split}
use denote.Param.Members.{Mut}
use Rattle.pp_source.specs.Paths.{is_list_colon, is_given}
use Rattle.pp_source.proofs.paths.entries.Goals as goal

-- the parts of a slice that a loop has gone over
parts_given :
    {F : Type 0} {g : Mut F (Bor ℕ × Unit {0}) Bool} {f : F} {s from : Split ℕ F} (p : ℕ → Bool) (xs : List ℕ)
    → split_rest s ≡ xs → split_done s ≡ false → split_callee s ≡ f → from ≡ s
    → (parts : List (Bor (List ℕ))) (to : Split ℕ F) → Yields (split_steps g) from parts to → (r : Option (Bor (List ℕ))) (u : Split ℕ F) → r ≡ None → split_steps g to r u
    → ((x : ℕ) (b : Bool) (q : F) → CalledAt g f x b q → (q ≡ f) × (b ≡ p x)) → map (λ (x : Bor (List ℕ)). x.now) parts ≡ slice_split p xs
parts_given {g = g} p xs rest done callee begins parts to given r u none steps computes =
    (YieldsList-end (YieldsList-at begins (YieldsList-from_slice_split g p xs rest done callee computes)) parts to given r u none steps).0

pub returns : goal.returns
returns c =
    let split = c.split-entry-items.ensures in
    let given =
    parts_given is_list_colon c.args.text.now split.rest split.done split.closure c.into_iter-entry-iterator.ensures.into_iter_gives
    c.loop-entry.yielded _ c.loop-entry.yielded_by _ _ c.in-None.is c.next.ensures.steps (λ x b q called. search rules) in
    c.loop-entry.invariant ∙ ap (filter is_given) given
