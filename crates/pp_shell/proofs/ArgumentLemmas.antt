-- How the words after a command are taken, from left to right.
use Rattle.std.proofs.Common.{◌≡◌, ℕ, ◌+◌, ◌<◌, ◌≤◌, Bool, true, false, List, [], ◌∷◌, ◌++◌, length, get_or, cond, map, drop, refl, ap, sym, subst, ◌∙◌, append_assoc, arith}
use Rattle.std.specs.Prelude.{Option, None, ◌||◌, Result, Ok, Err}
use Rattle.std.specs.Option.{option_or}
use Rattle.std.specs.List.{filter_map, cons_option, last_or, list_any}
use Rattle.std.proofs.Math.Bool.{or-false, or-true}
use Rattle.std.proofs.lemmas.List.{append-nil, drop-drop, drop_more, length-drop}
use Rattle.std.proofs.lemmas.List.Elements.{filter_map-append}
use Rattle.std.proofs.lemmas.List.Folds.{list_any-append}
use Rattle.pp_base.proofs.Lists.{last_push}
use Rattle.pp_shell.specs.declared.fault.LineFault.{LineFault}
use Rattle.pp_shell.specs.declared.fault.LineFault.TheVariants.{EmptyRedirect}
use Rattle.pp_shell.specs.declared.fault.LineRefusal.{LineRefusal}
use Rattle.pp_shell.specs.declared.fault.LineRefusal.TheVariants.{Fault, Memory}
use Rattle.pp_shell.specs.declared.argument.Argument.{Argument}
use Rattle.pp_shell.specs.declared.argument.Argument.TheVariants.{Rows, Output, ByCum, Ignore, Focus}
use Rattle.pp_shell.specs.declared.narrowing.Narrowing.{Narrowing}
use Rattle.pp_shell.specs.Answers.{AnswersLine}
use Rattle.pp_shell.specs.Arguments.{argument_of, is_redirect, argument_before, arguments, nonempty, rows_of, output_of, is_by_cum, focus_of, ignore_of, one_pattern, narrowing, together}
use Rattle.pp_shell.specs.Taking.{with_alternative, with_argument, next_argument, taken_after, rest_after, TookArgument, TakesArgument, prepended, IsNarrowing}

-- two with the same fields are the same
same_narrowing : (a b : Narrowing) → a.rows ≡ b.rows → a.by_cum ≡ b.by_cum → a.focus ≡ b.focus → a.ignore ≡ b.ignore → a.output ≡ b.output → a ≡ b
same_narrowing a b r c f g o = λ i. record {
  rows = r i;
  by_cum = c i;
  focus = f i;
  ignore = g i;
  output = o i;
}

-- patterns that are one_pattern, and one more
joined_more : (x : List ℕ) (xs : List (List ℕ)) (p : List ℕ) → one_pattern (x ∷ xs ++ p ∷ []) ≡ one_pattern (x ∷ xs) ++ 124 ∷ p
joined_more x [] p = refl
joined_more x (y ∷ ys) p = ap (λ rest. x ++ 124 ∷ rest) (joined_more y ys p) ∙ sym (append_assoc x (124 ∷ one_pattern (y ∷ ys)) (124 ∷ p))

-- the first pattern isn't empty
abbrev StartsNonempty : List (List ℕ) → Type 0
StartsNonempty [] = Unit {0}
StartsNonempty ([] ∷ xs) = ⊥
StartsNonempty ((b ∷ bs) ∷ xs) = Unit {0}

-- one pattern more is joined as `added` says
joined_push : (xs : List (List ℕ)) (p : List ℕ) → StartsNonempty xs → one_pattern (xs ++ cons_option (nonempty p) []) ≡ with_alternative (one_pattern xs) p
joined_push xs [] starts = ap one_pattern (append-nil xs)
joined_push [] (b ∷ bs) starts = refl
joined_push ([] ∷ ys) (b ∷ bs) starts = absurd starts
joined_push ((c ∷ cs) ∷ []) (b ∷ bs) starts = refl
joined_push ((c ∷ cs) ∷ y ∷ ys) (b ∷ bs) starts = joined_more (c ∷ cs) (y ∷ ys) (b ∷ bs)

-- a pattern that isn't empty, before others
starts : (p : List ℕ) (xs : List (List ℕ)) → StartsNonempty xs → StartsNonempty (cons_option (nonempty p) xs)
starts [] xs h = h
starts (b ∷ bs) xs h = tt

-- the patterns for focus
focus_starts : (args : List Argument) → StartsNonempty (filter_map focus_of args)
focus_starts [] = tt
focus_starts (Rows rows ∷ args) = focus_starts args
focus_starts (Output path ∷ args) = focus_starts args
focus_starts (ByCum ∷ args) = focus_starts args
focus_starts (Ignore pattern ∷ args) = focus_starts args
focus_starts (Focus pattern ∷ args) = starts pattern _ (focus_starts args)

-- the patterns for ignore
ignore_starts : (args : List Argument) → StartsNonempty (filter_map ignore_of args)
ignore_starts [] = tt
ignore_starts (Rows rows ∷ args) = ignore_starts args
ignore_starts (Output path ∷ args) = ignore_starts args
ignore_starts (ByCum ∷ args) = ignore_starts args
ignore_starts (Ignore pattern ∷ args) = starts pattern _ (ignore_starts args)
ignore_starts (Focus pattern ∷ args) = ignore_starts args

-- the last of what arguments ask for, with one more
last_of : {A : Type 0} (part : Argument → Option A) (args : List Argument) (a : Argument) → last_or None (filter_map part (args ++ a ∷ [])) ≡ option_or (part a) (last_or None (filter_map part args))
last_of part args a = ap (last_or None) (filter_map-append part args (a ∷ [])) ∙ last_push None (filter_map part args) (part a)

-- the patterns of arguments, with one more
joined_of :
    (part : Argument → Option (List ℕ)) (args : List Argument) (a : Argument) (p : List ℕ) → StartsNonempty (filter_map part args) → part a ≡ nonempty p
    → one_pattern (filter_map part (args ++ a ∷ [])) ≡ with_alternative (one_pattern (filter_map part args)) p
joined_of part args a p h is =
    ap one_pattern (filter_map-append part args (a ∷ []))
    ∙ ap (λ o. one_pattern (filter_map part args ++ cons_option o [])) is
    ∙ joined_push (filter_map part args) p h

-- whether an argument asks for the order by cum, with one more
cum_of : (args : List Argument) (a : Argument) → list_any is_by_cum (args ++ a ∷ []) ≡ (list_any is_by_cum args || is_by_cum a)
cum_of args a = list_any-append is_by_cum args (a ∷ []) ∙ ap (λ b. list_any is_by_cum args || b) (or-false (is_by_cum a))

-- what arguments ask for, with one more
narrowing_push : (args : List Argument) (a : Argument) → narrowing (args ++ a ∷ []) ≡ with_argument (narrowing args) a
narrowing_push args (Rows rows) =
    same_narrowing _ _ (last_of rows_of args _) (cum_of args _ ∙ or-false _) (joined_of focus_of args _ [] (focus_starts args) refl)
    (joined_of ignore_of args _ [] (ignore_starts args) refl) (last_of output_of args _)
narrowing_push args (Output path) =
    same_narrowing _ _ (last_of rows_of args _) (cum_of args _ ∙ or-false _) (joined_of focus_of args _ [] (focus_starts args) refl)
    (joined_of ignore_of args _ [] (ignore_starts args) refl) (last_of output_of args _)
narrowing_push args ByCum =
    same_narrowing _ _ (last_of rows_of args _) (cum_of args _ ∙ or-true _) (joined_of focus_of args _ [] (focus_starts args) refl)
    (joined_of ignore_of args _ [] (ignore_starts args) refl) (last_of output_of args _)
narrowing_push args (Ignore pattern) =
    same_narrowing _ _ (last_of rows_of args _) (cum_of args _ ∙ or-false _) (joined_of focus_of args _ [] (focus_starts args) refl)
    (joined_of ignore_of args _ pattern (ignore_starts args) refl) (last_of output_of args _)
narrowing_push args (Focus pattern) =
    same_narrowing _ _ (last_of rows_of args _) (cum_of args _ ∙ or-false _) (joined_of focus_of args _ pattern (focus_starts args) refl)
    (joined_of ignore_of args _ [] (ignore_starts args) refl) (last_of output_of args _)

-- a word alone, by whether it is `>`
by_redirect :
    (b : Bool) (word : List ℕ)
    → cond b (Err EmptyRedirect) (argument_before (argument_of word) (Ok [])) ≡ argument_before (cond b (Err EmptyRedirect) (argument_of word)) (arguments (cond b [] []))
by_redirect true word = refl
by_redirect false word = refl

-- a word before another, by whether it is `>`
next_by_redirect :
    (b : Bool) (word next : List ℕ) (words : List (List ℕ))
    → cond b (argument_before (Ok (Output next)) (arguments words)) (argument_before (argument_of word) (arguments (next ∷ words)))
    ≡ argument_before (cond b (Ok (Output next)) (argument_of word)) (arguments (cond b words (next ∷ words)))
next_by_redirect true word next words = refl
next_by_redirect false word next words = refl

-- the words of a command are the first argument and the others
arguments_next : (word : List ℕ) (after : List (List ℕ)) → arguments (word ∷ after) ≡ argument_before (next_argument word after) (arguments (rest_after word after))
arguments_next word [] = by_redirect (is_redirect word) word
arguments_next word (next ∷ words) = next_by_redirect (is_redirect word) word next words

-- no arguments before others
all_before : (r : Result (List Argument) LineFault) → prepended [] r ≡ r
all_before (Ok args) = refl
all_before (Err fault) = refl

-- an argument between those before and those after it
prepended_next : (before : List Argument) (a : Argument) (r : Result (List Argument) LineFault) → prepended before (argument_before (Ok a) r) ≡ prepended (before ++ a ∷ []) r
prepended_next before a (Ok args) = ap Ok (sym (append_assoc before (a ∷ []) args))
prepended_next before a (Err fault) = refl

-- before the first word nothing is taken
pub narrowing_start : (n : Narrowing) (words : List (List ℕ)) → n ≡ narrowing [] → IsNarrowing n words words
narrowing_start n words is = record { before = []; split = sym (all_before (arguments words)); has = is }

-- the argument of the next words was taken
narrowing_next :
    (old new : Narrowing) (words rest : List (List ℕ)) (word : List ℕ) (after left : List (List ℕ))
    → IsNarrowing old words rest → rest ≡ word ∷ after → TookArgument old new (next_argument word after) → left ≡ rest_after word after
    → IsNarrowing new words left
narrowing_next old new words rest word after left reading is taken left_is = record {
  before = reading.before ++ taken.argument ∷ [];
  split =
      reading.split
      ∙ ap (λ (ws : List (List ℕ)). prepended reading.before (arguments ws)) is
      ∙ ap (prepended reading.before) (arguments_next word after)
      ∙ ap (λ a. prepended reading.before (argument_before a (arguments (rest_after word after)))) taken.asked
      ∙ prepended_next reading.before taken.argument (arguments (rest_after word after))
      ∙ ap (λ (ws : List (List ℕ)). prepended (reading.before ++ taken.argument ∷ []) (arguments ws)) (sym left_is);
  has = taken.took ∙ ap (λ n. with_argument n taken.argument) reading.has ∙ sym (narrowing_push reading.before taken.argument);
}

-- a fault of the next words is that of all
narrowing_fault :
    (n : Narrowing) (words rest : List (List ℕ)) (word : List ℕ) (after : List (List ℕ)) (fault : LineFault)
    → IsNarrowing n words rest → rest ≡ word ∷ after → next_argument word after ≡ Err fault → together (arguments words) ≡ Err fault
narrowing_fault n words rest word after fault reading is wrong =
    ap together
    (reading.split
    ∙ ap (λ (ws : List (List ℕ)). prepended reading.before (arguments ws)) is
    ∙ ap (prepended reading.before) (arguments_next word after)
    ∙ ap (λ a. prepended reading.before (argument_before a (arguments (rest_after word after)))) wrong)

-- a refusal of the next words is that of all
narrowing_refused :
    (A B : Type 0) (old new : Narrowing) (words rest : List (List ℕ)) (word : List ℕ) (after : List (List ℕ)) (e : LineRefusal) (r : Result Narrowing LineRefusal)
    → IsNarrowing old words rest → rest ≡ word ∷ after → TakesArgument {A = A} old new (next_argument word after) (Err e) → r ≡ Err e
    → AnswersLine (together (arguments words)) r
narrowing_refused A B old new words rest word after (Fault fault) r reading is refused r_is =
    subst (λ (x : Result Narrowing LineRefusal). AnswersLine (together (arguments words)) x) (sym r_is) (narrowing_fault old words rest word after fault reading is refused)
narrowing_refused A B old new words rest word after Memory r reading is refused r_is =
    subst (λ (x : Result Narrowing LineRefusal). AnswersLine (together (arguments words)) x) (sym r_is) tt

-- after the last word all is taken
pub narrowing_whole : (n : Narrowing) (words : List (List ℕ)) → IsNarrowing n words [] → together (arguments words) ≡ Ok n
narrowing_whole n words reading =
    ap together reading.split ∙ ap (λ (args : List Argument). Ok (narrowing args)) (append-nil reading.before) ∙ ap Ok (sym reading.has)

-- how many words belong to a word, by whether it is `>`
abbrev taken_by : Bool → List (List ℕ) → ℕ
taken_by b [] = 0
taken_by b (next ∷ words) = cond b 1 0

-- what is taken behind a word is what is taken by whether it redirects
taken_is : (word : List ℕ) (after : List (List ℕ)) → taken_after word after ≡ taken_by (is_redirect word) after
taken_is word [] = refl
taken_is word (next ∷ words) = refl

-- they are no more than there are
few_by : {A : Type 0} (now : A → List ℕ) (b : Bool) (after : List A) (n : ℕ) → n ≡ taken_by b (map now after) → n ≤ length after
few_by now b [] n is = omega arith
few_by now true (x ∷ xs) n is = omega arith
few_by now false (x ∷ xs) n is = omega arith

-- the words after a place and those that belong to the word there, by whether it is `>`
left_by :
    {A : Type 0} (now : A → List ℕ) (b : Bool) (after : List A) (n : ℕ) → n ≡ taken_by b (map now after)
    → map now (drop n after) ≡ cond b (drop 1 (map now after)) (map now after)
left_by now true [] n is = rw is refl
left_by now false [] n is = rw is refl
left_by now true (x ∷ xs) n is = rw is refl
left_by now false (x ∷ xs) n is = rw is refl

-- the words that are left after a word and those that belong to it
left_is :
    {A : Type 0} (now : A → List ℕ) (words : List A) (i : ℕ) (word : List ℕ) (n : ℕ) → n ≡ taken_after word (map now (drop (i + 1) words))
    → map now (drop (i + (1 + n)) words) ≡ rest_after word (map now (drop (i + 1) words))
left_is now words i word n is =
    let at : i + (1 + n) ≡ i + 1 + n = omega arith in
    ap (λ k. map now (drop k words)) at
    ∙ ap (map now) (sym (drop-drop n (i + 1) words))
    ∙ left_by now (is_redirect word) (drop (i + 1) words) n (is ∙ taken_is word (map now (drop (i + 1) words)))

-- the words from a place on begin with the one there
opened :
    {A : Type 0} (now : A → List ℕ) (words : List A) (i : ℕ) (d : A) → i < length words
    → map now (drop i words) ≡ now (get_or words i d) ∷ map now (drop (i + 1) words)
opened now words i d below = ap (map now) (drop_more words i d below)

-- no more words are taken than there are
taken_within :
    {A : Type 0} (now : A → List ℕ) (words : List A) (i : ℕ) (word : List ℕ) (n : ℕ) → i < length words → n ≡ taken_after word (map now (drop (i + 1) words))
    → i + (1 + n) ≤ length words
taken_within now words i word n below is =
    let few : n ≤ length (drop (i + 1) words) = few_by now (is_redirect word) (drop (i + 1) words) n (is ∙ taken_is word (map now (drop (i + 1) words))) in
    omega (arith, length-drop (i + 1) words)

-- the word at a place was taken, with those that belong to it
pub word_taken :
    {A : Type 0} (now : A → List ℕ) (words : List A) (i : ℕ) (d : A) (after : List (List ℕ)) (n : ℕ) (old new : Narrowing) → i < length words
    → after ≡ map now (drop (i + 1) words) → n ≡ taken_after (now (get_or words i d)) after → IsNarrowing old (map now words) (map now (drop i words))
    → TookArgument old new (next_argument (now (get_or words i d)) after)
    → (i + (1 + n) ≤ length words) × IsNarrowing new (map now words) (map now (drop (i + (1 + n)) words))
word_taken now words i d after n old new below is count reading taken =
    let word = now (get_or words i d) in
    let counted : n ≡ taken_after word (map now (drop (i + 1) words)) = count ∙ ap (taken_after word) is in (
      taken_within now words i word n below counted,
      narrowing_next old new (map now words) (map now (drop i words)) word after (map now (drop (i + (1 + n)) words)) reading
          (opened now words i d below ∙ ap (λ (ws : List (List ℕ)). word ∷ ws) (sym is))
          taken
          (left_is now words i word n counted ∙ ap (rest_after word) (sym is)),
    )

-- the word at a place was refused
pub word_refused :
    {A : Type 0} (now : A → List ℕ) (words : List A) (i : ℕ) (d : A) (after : List (List ℕ)) (B : Type 0) (old new : Narrowing) (e : LineRefusal)
    (r : Result Narrowing LineRefusal) → i < length words → after ≡ map now (drop (i + 1) words) → IsNarrowing old (map now words) (map now (drop i words))
    → TakesArgument {A = B} old new (next_argument (now (get_or words i d)) after) (Err e) → r ≡ Err e → AnswersLine (together (arguments (map now words))) r
word_refused now words i d after B old new e r below is reading refused r_is =
    narrowing_refused B B old new (map now words) (map now (drop i words)) (now (get_or words i d)) after e r reading
    (opened now words i d below ∙ ap (λ (ws : List (List ℕ)). now (get_or words i d) ∷ ws) (sym is)) refused r_is
