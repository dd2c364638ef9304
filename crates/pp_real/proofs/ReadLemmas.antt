-- A reader that is read to its end into a text.
use Rattle.std.proofs.Common.{◌≡◌, ◌+◌, ◌≤◌, ◌<◌, ◌++◌, ℕ, List, [], Option, None, Some, IfSome, ap, arith, length, refl, sym, take, ◌∙◌, append_assoc, append-nil, length-take-le}
use Rattle.std.proofs.lemmas.List.{length-append}
use Rattle.std.specs.Io.KnownBytes.{Consumes, IsAtEnd}

-- The text with what the reader has left is the text of the start with what was left then, where that is known.
abbrev pub StaysWhole : Option (List ℕ) → Option (List ℕ) → List ℕ → List ℕ → Type 0
StaysWhole None left start text = Unit {0}
StaysWhole (Some all) None start text = ⊥
StaysWhole (Some all) (Some rest) start text = start ++ all ≡ text ++ rest

-- nothing was read
pub whole_start : (first : Option (List ℕ)) (start : List ℕ) → StaysWhole first first start start
whole_start None start = tt
whole_start (Some all) start = refl

-- what was read goes to the end of the text
pub whole_then : (first left next : Option (List ℕ)) (start text more : List ℕ)
    → StaysWhole first left start text → Consumes left next more → StaysWhole first next start (text ++ more)
whole_then None left next start text more w c = tt
whole_then (Some all) None next start text more w c = absurd w
whole_then (Some all) (Some rest) None start text more w c = absurd c
whole_then (Some all) (Some rest) (Some last) start text more w c =
    w ∙ ap (λ l. text ++ l) c ∙ sym (append_assoc text more last)

-- a reader that gave nothing at its end has nothing left
pub whole_end : (first left next : Option (List ℕ)) (start text : List ℕ)
    → StaysWhole first left start text → Consumes left next [] → IsAtEnd next
    → IfSome first (λ all. text ≡ start ++ all)
whole_end None left next start text w c e = tt
whole_end (Some all) None next start text w c e = absurd w
whole_end (Some all) (Some rest) None start text w c e = absurd c
whole_end (Some all) (Some rest) (Some last) start text w c e =
    sym (w ∙ ap (λ l. text ++ l) (c ∙ e) ∙ append-nil text)

-- what does not fit any more is longer than the limit
pub whole_past : (first left next : Option (List ℕ)) (start text piece : List ℕ) (limit count : ℕ)
    → StaysWhole first left start text → Consumes left next (take count piece) → count ≤ length piece
    → limit < length text + count → IfSome first (λ all. limit < length start + length all)
whole_past None left next start text piece limit count w c le past = tt
whole_past (Some all) None next start text piece limit count w c le past = absurd w
whole_past (Some all) (Some rest) None start text piece limit count w c le past = absurd c
whole_past (Some all) (Some rest) (Some last) start text piece limit count w c le past =
    let whole : length start + length all ≡ length text + length rest =
    sym (length-append start all) ∙ ap length w ∙ length-append text rest in
    let parts : length rest ≡ length (take count piece) + length last = ap length c ∙ length-append (take count piece) last in
    let front : length (take count piece) ≡ count = length-take-le count piece le in
    omega (arith, whole, parts, front, past)
