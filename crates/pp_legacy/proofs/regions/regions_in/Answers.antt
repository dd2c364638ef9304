use Rattle.std.proofs.Common.{◌≡◌, ℕ, Bool, false, List, ◌++◌, ◌∷◌, [], map, ap, sym, ◌∙◌, Bor, rules, refl}
use Rattle.std.specs.Prelude.{Option, Some, None, option_to_list}
use Rattle.std.specs.Fn.{CalledAt}
use Rattle.std.specs.Iterator.{Yields}
use Rattle.std.specs.List.{cons_option, filter_map, slice_split}
use Rattle.std.specs.Slice.Iter.{split_steps, split_rest, split_done, split_callee}
use Rattle.std.specs.declared.slice.Split.{Split}
use Rattle.std.proofs.lemmas.Iterator.Consumers.{YieldsList-end, YieldsList-at}
use Rattle.std.proofs.lemmas.Iterator.Splits.{YieldsList-from_slice_split}
use Rattle.std.proofs.lemmas.List.{map_push}
use Rattle.std.proofs.lemmas.List.Elements.{filter_map-append}
use denote.Param.Members.{Mut}
use Rattle.pp_legacy.specs.Regions.{code_in, regions}
use Rattle.pp_legacy.proofs.regions.regions_in.Goals as goal
use Rattle.pp_base.specs.Words.{is_line_end}

-- the parts of a slice that a loop has gone over
parts_given :
    {F : Type 0} {g : Mut F (Bor ℕ × Unit {0}) Bool} {f : F} {s from : Split ℕ F} (p : ℕ → Bool) (xs : List ℕ)
    → split_rest s ≡ xs → split_done s ≡ false → split_callee s ≡ f → from ≡ s
    → (parts : List (Bor (List ℕ))) (to : Split ℕ F) → Yields (split_steps g) from parts to → (r : Option (Bor (List ℕ))) (u : Split ℕ F) → r ≡ None → split_steps g to r u
    → ((x : ℕ) (b : Bool) (q : F) → CalledAt g f x b q → (q ≡ f) × (b ≡ p x)) → map (λ (x : Bor (List ℕ)). x.now) parts ≡ slice_split p xs
parts_given {g = g} p xs rest done callee begins parts to given r u none steps computes =
    (YieldsList-end (YieldsList-at begins (YieldsList-from_slice_split g p xs rest done callee computes)) parts to given r u none steps).0

-- an option as a list
as_list : {A : Type 0} (o : Option A) → cons_option o [] ≡ option_to_list o
as_list None = refl
as_list (Some x) = refl

-- one line more
one_more : (lines : List (Bor (List ℕ))) (line : Bor (List ℕ))
    → filter_map code_in (map (λ (x : Bor (List ℕ)). x.now) (lines ++ line ∷ []))
    ≡ filter_map code_in (map (λ (x : Bor (List ℕ)). x.now) lines) ++ option_to_list (code_in line.now)
one_more lines line =
    ap (filter_map code_in) (map_push (λ (x : Bor (List ℕ)). x.now) lines line)
    ∙ filter_map-append code_in (map (λ (x : Bor (List ℕ)). x.now) lines) (line.now ∷ [])
    ∙ ap (λ l. filter_map code_in (map (λ (x : Bor (List ℕ)). x.now) lines) ++ l) (as_list (code_in line.now))

pub loop-line-preserved : goal.loop-line-preserved
loop-line-preserved c =
    c.in_ok-add_code.ensures ∙ ap (λ l. l ++ option_to_list (code_in c.in-Some.line.now)) c.loop-line.invariant
    ∙ sym (one_more c.loop-line.yielded c.in-Some.line)

pub returns : goal.returns
unfolding regions
returns c =
    let split = c.split-line-items.ensures in
    let given =
    parts_given is_line_end c.args.text.now split.rest split.done split.closure c.into_iter-line-iterator.ensures.into_iter_gives
    c.loop-line.yielded _ c.loop-line.yielded_by _ _ c.in-None.is c.next.ensures.steps (λ x b q called. search rules) in
    c.loop-line.invariant ∙ ap (filter_map code_in) given
