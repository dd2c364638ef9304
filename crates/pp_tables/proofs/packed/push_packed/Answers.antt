use Rattle.std.proofs.Common.{rules, ◌≡◌, ℕ, ◌+◌, ◌<◌, List, [], ◌∷◌, ◌++◌, length, take, drop, slice_set, Option, Some, None, Ok, ap, sym, ◌∙◌, append_assoc, arith}
use Rattle.std.proofs.lemmas.List.{length-set, take_more_set}
use Rattle.pp_wire.specs.declared.fault.WireFault.{WireFault}
use Rattle.pp_wire.specs.Walk.{next_item}
use Rattle.pp_tables.proofs.packed.push_packed.Goals as goal

items_front : (items : List ℕ) (fault : Option WireFault) (n : ℕ) → Some (Ok n) ≡ next_item items fault → items ≡ n ∷ drop 1 items
items_front (x ∷ items) fault n e = let same : x ≡ n = cc in ap (λ y. y ∷ items) same
items_front [] (Some f) n e = absurd cc
items_front [] None n e = absurd cc

-- one number more in the row
row_more : {A : Type 0} (numbers : List ℕ → List A) → ((xs ys : List ℕ) → numbers (xs ++ ys) ≡ numbers xs ++ numbers ys) → (before after : List A) (row : List ℕ) (count place n : ℕ) (items rest : List ℕ)
    → place < length row → after ++ numbers (take place row) ≡ before ++ numbers (take count row) → items ≡ n ∷ rest
    → after ++ (numbers (take (place + 1) (slice_set row place n)) ++ numbers rest) ≡ before ++ (numbers (take count row) ++ numbers items)
row_more numbers append before after row count place n items rest within kept front =
    let this = numbers (n ∷ []) in
    let one : numbers items ≡ this ++ numbers rest = ap numbers front ∙ append (n ∷ []) rest in
    ap (λ l. after ++ (l ++ numbers rest)) (ap numbers (take_more_set row place n within) ∙ append (take place row) (n ∷ []))
    ∙ ap (λ l. after ++ l) (append_assoc (numbers (take place row)) this (numbers rest))
    ∙ sym (append_assoc after (numbers (take place row)) (this ++ numbers rest))
    ∙ ap (λ l. l ++ (this ++ numbers rest)) kept
    ∙ append_assoc before (numbers (take count row)) (this ++ numbers rest)
    ∙ ap (λ l. before ++ (numbers (take count row) ++ l)) (sym one)

pub loop-next-preserved : goal.loop-next-preserved
loop-next-preserved g c =
    let given : Some (Ok c.in_ok-row.field-0) ≡ next_item c.loop-next.packed.items c.loop-next.packed.fault = search rules in
    let front : c.loop-next.packed.items ≡ c.in_ok-row.field-0 ∷ c.next.new.self.items = search (rules, items_front c.loop-next.packed.items c.loop-next.packed.fault c.in_ok-row.field-0 given) in
    record {
      value = row_more g.N.Packable.numbers g.met.N.Packable.numbers_append c.loop-next.list c.next_place.new.list c.loop-next.row c.loop-next.count c.in_ok-place.place c.in_ok-row.field-0 c.loop-next.packed.items c.next.new.self.items
          (omega (arith, c.in_ok-place.ensures.within, c.loop-next.invariant.row)) c.in_ok-place.ensures.kept front ∙ c.loop-next.invariant.value;
      fault = search rules;
      few = search rules;
      row = length-set c.loop-next.row c.in_ok-place.place c.in_ok-row.field-0 ∙ c.loop-next.invariant.row;
    }
