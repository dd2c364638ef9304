-- Marks of the pieces that were taken, and the pieces without one.
use Rattle.std.proofs.Common.{◌≡◌, ℕ, zero, suc, ◌+◌, ◌<◌, ◌≤◌, ltb, cond, Bool, true, false, not, ◌||◌, List, [], ◌∷◌, ◌++◌, length, length-append, set, get_or, get_or-set_same, get_or-set_other, take, sym, refl, ap, ◌∙◌, subst, arith, add-one, filter}
use Rattle.std.proofs.lemmas.Bool.Decides.{nat_tests}
use native.Mathlib.Decide.{ℕ_discrete, dec_le}
use Rattle.std.proofs.Math.Seq.{take-suc}
use Rattle.pp_steal.specs.Pool.{count_in, AllOver, Rises}
use Rattle.pp_steal.specs.Dealing.{upto, AreDistinctPieces}
use Rattle.pp_steal.specs.Closing.{times_in, AreGivenOnce}
use Rattle.pp_steal.proofs.Keeps.{times-append, rises_push}
use Rattle.pp_steal.proofs.Dealt.{times-filter, times-one, times-other, times-upto, few_pieces}
use Rattle.pp_steal.proofs.Making.{under_upto}
use Rattle.pp_steal.proofs.Each.{get_end}

times_get : (xs : List ℕ) (i : ℕ) → i < length xs → 1 ≤ count_in (get_or xs i 0) xs
times_get [] i lt = absurd (omega arith)
times_get (x ∷ xs) zero lt = let a = times-one x in omega arith
times_get (x ∷ xs) (suc i) lt = let a = times_get xs i (omega arith) in omega arith

pub in_range : (n : ℕ) (xs : List ℕ) (i : ℕ) → AreDistinctPieces n xs → i < length xs → get_or xs i 0 < n
in_range n xs i once lt = let x : ℕ = get_or xs i 0 in let a = times_get xs i lt in let b = once x in
    elim (dec_le n x) as (λ _. x < n) [ yes le ↦ let z = (times-upto x n).0 le in absurd (omega arith) | no more ↦ omega arith ]

times_more : (x : ℕ) (xs : List ℕ) (i : ℕ) → i < length xs → count_in x (take (i + 1) xs) ≡ count_in x (take i xs) + count_in x (get_or xs i 0 ∷ [])
times_more x xs i lt = ap (count_in x) (rw add-one (take-suc xs i 0 lt)) ∙ times-append x (take i xs) (get_or xs i 0 ∷ [])

or_true : (b : Bool) (n : ℕ) → 0 < n → true ≡ (b || ltb 0 n)
or_true true n lt = refl
or_true false n lt = grind (arith, nat_tests)

pub marks_more : (first marks : List Bool) (list : List ℕ) (i : ℕ) → length marks ≡ length first → i < length list → get_or list i 0 < length first → ((x : ℕ) → x < length first → get_or marks x false ≡ (get_or first x false || ltb 0 (count_in x (take i list))))
    → (x : ℕ) → x < length first → get_or (set marks (get_or list i 0) true) x false ≡ (get_or first x false || ltb 0 (count_in x (take (i + 1) list)))
marks_more first marks list i same lt range before x below =
    let p : ℕ = get_or list i 0 in
    let m = times_more x list i lt in
    elim (ℕ_discrete x p) as (λ _. get_or (set marks p true) x false ≡ (get_or first x false || ltb 0 (count_in x (take (i + 1) list)))) [
      | yes e ↦ let one : count_in x (p ∷ []) ≡ 1 = subst (λ (k : ℕ). count_in x (k ∷ []) ≡ 1) e (times-one x) in
          subst (λ (k : ℕ). get_or (set marks p true) k false ≡ true) (sym e) (get_or-set_same marks p true false (omega arith)) ∙ or_true (get_or first x false) (count_in x (take (i + 1) list)) (omega arith)
      | no n ↦ let none : count_in x (p ∷ []) ≡ 0 = times-other x p n in
          get_or-set_other marks p x true false n ∙ before x below ∙ ap (λ (k : ℕ). get_or first x false || ltb 0 k) (omega arith)
    ]

times_in_snoc : (x : ℕ) (taken : List (List ℕ)) (l : List ℕ) → times_in x (taken ++ l ∷ []) ≡ times_in x taken + count_in x l
times_in_snoc x [] l = omega arith
times_in_snoc x (t ∷ taken) l = omega (arith, times_in_snoc x taken l)

pub times_in_more : (x : ℕ) (taken : List (List ℕ)) (k : ℕ) → k < length taken → times_in x (take (k + 1) taken) ≡ times_in x (take k taken) + count_in x (get_or taken k [])
times_in_more x taken k lt = ap (times_in x) (rw add-one (take-suc taken k [] lt)) ∙ times_in_snoc x (take k taken) (get_or taken k [])

times_in_get : (x : ℕ) (taken : List (List ℕ)) (k : ℕ) → k < length taken → count_in x (get_or taken k []) ≤ times_in x taken
times_in_get x [] k lt = absurd (omega arith)
times_in_get x (t ∷ taken) zero lt = omega arith
times_in_get x (t ∷ taken) (suc k) lt = let a = times_in_get x taken k (omega arith) in omega arith

any_list : (taken : List (List ℕ)) (k : ℕ) (d e : List ℕ) → k < length taken → get_or taken k d ≡ get_or taken k e
any_list [] k d e lt = absurd (omega arith)
any_list (x ∷ taken) zero d e lt = refl
any_list (x ∷ taken) (suc k) d e lt = any_list taken k d e (omega arith)

pub list_is : (taken : List (List ℕ)) (k : ℕ) (l : List ℕ) → k < length taken → l ≡ get_or taken k l → l ≡ get_or taken k []
list_is taken k l lt is = is ∙ any_list taken k l [] lt

pub list_once : (n m : ℕ) (taken : List (List ℕ)) (k : ℕ) (l : List ℕ) → AreGivenOnce n taken → m ≡ n → k < length taken → l ≡ get_or taken k [] → AreDistinctPieces m l
list_once n m taken k l once same lt is x = let a = times_in_get x taken k lt in let b = once x in let c : count_in x l ≡ count_in x (get_or taken k []) = ap (count_in x) is in let d : count_in x (upto m) ≡ count_in x (upto n) = ap (λ (i : ℕ). count_in x (upto i)) same in omega arith

or_sum : (n m : ℕ) → (ltb 0 n || ltb 0 m) ≡ ltb 0 (n + m)
or_sum zero m = ap (ltb 0) (omega arith)
or_sum (suc n) m = grind (arith, nat_tests)

pub all_more : (first marks next : List Bool) (taken : List (List ℕ)) (k : ℕ) (l : List ℕ) → length marks ≡ length first → k < length taken → l ≡ get_or taken k [] → ((x : ℕ) → x < length first → get_or marks x false ≡ ltb 0 (times_in x (take k taken)))
    → ((x : ℕ) → x < length marks → get_or next x false ≡ (get_or marks x false || ltb 0 (count_in x l))) → (x : ℕ) → x < length first → get_or next x false ≡ ltb 0 (times_in x (take (k + 1) taken))
all_more first marks next taken k l same lt is before step x below =
    let m = times_in_more x taken k lt in
    let c : count_in x l ≡ count_in x (get_or taken k []) = ap (count_in x) is in
    step x (omega arith) ∙ ap (λ (b : Bool). b || ltb 0 (count_in x l)) (before x below) ∙ or_sum (times_in x (take k taken)) (count_in x l) ∙ ap (ltb 0) (omega arith)

filter_short : (p : ℕ → Bool) (xs : List ℕ) → length (filter p xs) ≤ length xs
filter_short p [] = omega arith
filter_short p (x ∷ xs) = let h = filter_short p xs in let P : Bool → Type 0 = λ b. length (cond b (x ∷ filter p xs) (filter p xs)) ≤ suc (length xs) in elim (p x) as P [ true ↦ omega arith | false ↦ omega arith ]

length-upto : (n : ℕ) → length (upto n) ≡ n
length-upto zero = refl
length-upto (suc n) = omega (arith, length-append (upto n) (n ∷ []), length-upto n)

pub filter_room : (p : ℕ → Bool) (n : ℕ) → length (filter p (upto n)) ≤ n
filter_room p n = let a = filter_short p (upto n) in let b = length-upto n in omega arith

over_only : (p : ℕ → Bool) (z : ℕ) (xs : List ℕ) → AllOver z xs → AllOver z (filter p xs)
over_only p z [] h = tt
over_only p z (x ∷ xs) h = let P : Bool → Type 0 = λ b. AllOver z (cond b (x ∷ filter p xs) (filter p xs)) in elim (p x) as P [ true ↦ (h.0, over_only p z xs h.1) | false ↦ over_only p z xs h.1 ]

rises_only : (p : ℕ → Bool) (xs : List ℕ) → Rises xs → Rises (filter p xs)
rises_only p [] h = tt
rises_only p (x ∷ xs) h = let P : Bool → Type 0 = λ b. Rises (cond b (x ∷ filter p xs) (filter p xs)) in elim (p x) as P [ true ↦ (over_only p x xs h.0, rises_only p xs h.1) | false ↦ rises_only p xs h.1 ]

rises_upto : (n : ℕ) → Rises (upto n)
rises_upto zero = tt
rises_upto (suc n) = rises_push n (upto n) (rises_upto n) (under_upto n)

pub rises_left : (p : ℕ → Bool) (n : ℕ) → Rises (filter p (upto n))
rises_left p n = rises_only p (upto n) (rises_upto n)

count_left : (b : Bool) (n m : ℕ) → n ≤ m → m ≤ 1 → b ≡ ltb 0 n → n + cond (not b) m 0 ≡ m
count_left true n m le one e = grind (arith, nat_tests)
count_left false n m le one e = grind (arith, nat_tests)

-- each piece was taken once, or is left
pub all_once : (pieces : ℕ) (marks : List Bool) (taken : List (List ℕ)) → length marks ≡ pieces → AreGivenOnce pieces taken → ((x : ℕ) → x < pieces → get_or marks x false ≡ ltb 0 (times_in x taken))
    → (x : ℕ) → times_in x taken + count_in x (filter (λ y. not (get_or marks y false)) (upto pieces)) ≡ count_in x (upto pieces)
all_once pieces marks taken count once is x =
    let p : ℕ → Bool = λ y. not (get_or marks y false) in
    let t = times-filter p x (upto pieces) in
    let u = times-upto x pieces in
    let g = once x in
    elim (dec_le pieces x) as (λ _. times_in x taken + count_in x (filter p (upto pieces)) ≡ count_in x (upto pieces)) [
      | yes le ↦ let z = u.0 le in let P : Bool → Type 0 = λ b. cond b (count_in x (upto pieces)) 0 ≡ 0 in let c : cond (p x) (count_in x (upto pieces)) 0 ≡ 0 = elim (p x) as P [ true ↦ z | false ↦ refl ] in omega arith
      | no more ↦ let c = count_left (get_or marks x false) (times_in x taken) (count_in x (upto pieces)) g u.1 (is x (omega arith)) in omega arith
    ]

pub any_mark : (marks : List Bool) (k : ℕ) (d e : Bool) → k < length marks → get_or marks k d ≡ get_or marks k e
any_mark [] k d e lt = absurd (omega arith)
any_mark (x ∷ marks) zero d e lt = refl
any_mark (x ∷ marks) (suc k) d e lt = any_mark marks k d e (omega arith)

-- a piece that was given is one of the pieces, and there was room for it
pub given_below : (pieces : ℕ) (taken after : List ℕ) (x : ℕ) → AreDistinctPieces pieces after → after ≡ taken ++ x ∷ [] → (x < pieces) × (length taken < pieces)
given_below pieces taken after x once e =
    let all : AreDistinctPieces pieces (taken ++ x ∷ []) = subst (AreDistinctPieces pieces) e once in
    let few = few_pieces pieces (taken ++ x ∷ []) all in
    let at = get_end (λ (_ : ℕ) (_ : ℕ). Unit {0}) taken x 0 in
    let r = in_range pieces (taken ++ x ∷ []) (length taken) all (omega (arith, length-append taken (x ∷ []))) in
    (subst (λ (k : ℕ). k < pieces) at r, omega (arith, length-append taken (x ∷ [])))
