-- For the crates above: texts that are appended one after the other.
use Rattle.std.proofs.Common.{◌≡◌, ◌++◌, List, ℕ, Result, Ok, Err, OnOk, IfOk, ap, ◌∙◌, append_assoc, OnErr}

-- three texts, the last of which may fail
pub joined : {T E : Type 0} (r : Result T E) (before first second all a b c : List ℕ) → first ≡ before ++ a → second ≡ first ++ b
    → IfOk r (λ _. all ≡ second ++ c) → IfOk r (λ _. all ≡ before ++ ((a ++ b) ++ c))
joined (Err e) before first second all a b c p q h = tt
joined (Ok x) before first second all a b c p q h = rw (h, q, p) (simp append_assoc)

-- three texts, the last by a call that says what it leaves on success
pub joined_on : {T E : Type 0} (r : Result T E) (before first second all a b c : List ℕ) → first ≡ before ++ a → second ≡ first ++ b
    → OnOk r (all ≡ second ++ c) → IfOk r (λ _. all ≡ before ++ ((a ++ b) ++ c))
joined_on (Err e) before first second all a b c p q h = tt
joined_on (Ok x) before first second all a b c p q h = rw (h, q, p) (simp append_assoc)

-- two texts, the second of which may fail
pub joined_two : {T E : Type 0} (r : Result T E) (before first all a b : List ℕ) → first ≡ before ++ a
    → IfOk r (λ _. all ≡ first ++ b) → IfOk r (λ _. all ≡ before ++ (a ++ b))
joined_two (Err e) before first all a b p h = tt
joined_two (Ok x) before first all a b p h = rw (h, p) (simp append_assoc)

-- an appended text in another form
pub put_is : {T E : Type 0} (r : Result T E) (new old a b : List ℕ) → a ≡ b → IfOk r (λ _. new ≡ old ++ a) → IfOk r (λ _. new ≡ old ++ b)
put_is (Err e) new old a b same h = tt
put_is (Ok x) new old a b same h = h ∙ ap (λ t. old ++ t) same

-- a text of its own, appended whole
pub appended : {T E : Type 0} (r : Result T E) (new old own text : List ℕ) → own ≡ text → OnOk r (new ≡ old ++ own) → OnOk r (new ≡ old ++ text)
appended (Err e) new old own text same h = tt
appended (Ok x) new old own text same h = h ∙ ap (λ t. old ++ t) same

-- one text more
pub then_more : (before now next a b : List ℕ) → now ≡ before ++ a → next ≡ now ++ b → next ≡ before ++ (a ++ b)
then_more before now next a b p q = rw (q, p) (append_assoc before a b)

-- three texts, the last two of which belong together
pub and_two : {T E : Type 0} (r : Result T E) (before now next all a b c : List ℕ) → now ≡ before ++ a → next ≡ now ++ b → IfOk r (λ _. all ≡ next ++ c)
    → IfOk r (λ _. all ≡ before ++ (a ++ (b ++ c)))
and_two (Err e) before now next all a b c p q h = tt
and_two (Ok x) before now next all a b c p q h = rw (h, q, p) (simp append_assoc)

-- what follows on success
pub then_ok : {T E : Type 0} {P Q : Type 0} (r : Result T E) → (P → Q) → OnOk r P → OnOk r Q
then_ok (Ok x) step h = step h
then_ok (Err e) step h = tt

-- four texts, the last of which may fail
pub joined_four : {T E : Type 0} (r : Result T E) (before first second third all a b c d : List ℕ) → first ≡ before ++ a → second ≡ first ++ b → third ≡ second ++ c
    → IfOk r (λ _. all ≡ third ++ d) → IfOk r (λ _. all ≡ before ++ (((a ++ b) ++ c) ++ d))
joined_four (Err e) before first second third all a b c d p q s h = tt
joined_four (Ok x) before first second third all a b c d p q s h = rw (h, s, q, p) (simp append_assoc)

-- a fact holds after an error too
pub on_err : {T E P : Type 0} (r : Result T E) → P → OnErr r P
on_err (Ok x) holds = tt
on_err (Err e) holds = holds
