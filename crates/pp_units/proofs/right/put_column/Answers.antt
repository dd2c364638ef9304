use Rattle.std.proofs.Common.{◌≡◌, ◌++◌, ℕ, ◌+◌, take, length, replicate, List, [], ◌∷◌, Result, Ok, Err, OnOk, OnErr, arith, append_assoc, append-nil, sym, ap, ◌∙◌}
use Rattle.std.proofs.Math.Seq.{take-append_seam}
use Rattle.std.proofs.lemmas.List.{replicate-append-replicate}
use Rattle.pp_base.proofs.TextLemmas.{on_err}
use Rattle.pp_units.proofs.right.put_column.Goals as goal

-- one space more
one_more : (old now new : List ℕ) (n : ℕ) → now ≡ old ++ replicate n 32 → new ≡ now ++ 32 ∷ [] → new ≡ old ++ replicate (n + 1) 32
one_more old now new n e d =
    d ∙ ap (λ front. front ++ 32 ∷ []) e ∙ append_assoc old (replicate n 32) _ ∙ ap (λ spaces. old ++ spaces) (replicate-append-replicate n 1 32)

-- what stood in front is kept
front_kept : (old now more : List ℕ) → now ≡ old ++ more → take (length old) now ≡ old
front_kept old now more e = ap (take (length old)) e ∙ take-append_seam old more

-- all spaces and then the text
all_put : {T E : Type 0} (r : Result T E) (old now new text : List ℕ) (n spaces : ℕ) → now ≡ old ++ replicate n 32 → n ≡ spaces → OnOk r (new ≡ now ++ text) → OnOk r (new ≡ old ++ (replicate spaces 32 ++ text))
all_put (Err e) old now new text n spaces a b h = tt
all_put (Ok x) old now new text n spaces a b h =
    h ∙ ap (λ front. front ++ text) a ∙ append_assoc old (replicate n 32) text ∙ ap (λ k. old ++ (replicate k 32 ++ text)) b

-- the spaces alone
some_put : {T E : Type 0} (r : Result T E) (old now new : List ℕ) (n : ℕ) → now ≡ old ++ replicate n 32 → OnErr r (new ≡ now) → OnErr r (take (length old) new ≡ old)
some_put (Ok x) old now new n a h = tt
some_put (Err e) old now new n a h = front_kept old new _ (h ∙ a)

pub loop-init : goal.loop-init
loop-init c = sym (append-nil _)

pub returns-in_err-extend-clause-err : goal.returns-in_err-extend-clause-err
returns-in_err-extend-clause-err c = on_err _ (front_kept _ _ _ (c.in_err-extend.ensures.err ∙ c.loop.invariant))

pub loop-preserved : goal.loop-preserved
loop-preserved c = one_more _ _ _ _ c.loop.invariant c.in_ok-extend.ensures.ok

pub returns-clause-ok : goal.returns-clause-ok
returns-clause-ok c =
    let all : c.loop.counter ≡ c.args.spaces = omega arith in
    all_put c.extend-2.result c.args.out.now c.loop.out c.extend-2.new.self c.args.text.now _ _ c.loop.invariant all c.extend-2.ensures.ok

pub returns-clause-err : goal.returns-clause-err
returns-clause-err c = some_put c.extend-2.result c.args.out.now c.loop.out c.extend-2.new.self _ c.loop.invariant c.extend-2.ensures.err
