-- How the words are read from left to right.
use Rattle.std.proofs.Common.{◌≡◌, ℕ, ◌+◌, ◌-◌, ◌<◌, ◌≤◌, Bool, true, false, List, [], ◌∷◌, ◌++◌, length, get_or, drop, cond, refl, ap, sym, subst, ◌∙◌, arith, append_assoc, add-one}
use Rattle.std.specs.Prelude.{Option, Some, None, option_map, Result, Ok, Err}
use Rattle.std.specs.Option.{option_or}
use Rattle.std.proofs.lemmas.List.{append-nil, drop_more}
use Rattle.pp_options.specs.declared.draft.Draft.{Draft}
use Rattle.pp_options.specs.declared.plan.Plan.{Plan}
use Rattle.pp_options.specs.declared.usage.UsageFault.{UsageFault}
use Rattle.pp_options.specs.declared.usage.UsageRefusal.{UsageRefusal}
use Rattle.pp_options.specs.declared.usage.UsageRefusal.TheVariants.{Fault, Memory}
use Rattle.pp_options.specs.declared.item.Item.{Item}
use Rattle.pp_options.specs.declared.item.Item.TheVariants.{Source}
use Rattle.pp_options.specs.Items.{word_fault}
use Rattle.pp_options.specs.Spelling.{takes_next}
use Rattle.pp_options.specs.Words.{Entry, Request, entry, entries, sources, ends_options, request, normalized_at, item_fault, entry_fault, first_entry_fault, late_fault, unless_fault, words}
use Rattle.pp_options.specs.Plans.{request_of, ReadsPlan}
use Rattle.pp_options.specs.Drafts.{request_in, with_item, normalized_first, Took, TakesItem, TookEntry, TakesEntry, IsDraftOf, IsReading, ReadsAll, Finishes, taken_next, left_after}
use Rattle.pp_options.proofs.RequestLemmas.{request_push, noted_push}

-- before the first word nothing is read
pub reading_start : (draft : Draft) (whole : List Entry) → IsDraftOf draft [] → IsReading draft whole whole
reading_start draft whole has = record { before = []; split = refl; same_fault = refl; has = has }

-- after an item that was taken
took_item : (old new : Draft) (at : ℕ) (item : Item) (before : List Entry) → IsDraftOf old before → Took old new at item → IsDraftOf new (before ++ record { at = at; asked = Ok item } ∷ [])
took_item old new at item before has took = record {
  request = took.request ∙ ap (λ r. with_item r item) has.request ∙ sym (request_push before at item);
  noted = took.noted ∙ ap (λ known. normalized_first known at item) has.noted ∙ sym (noted_push before at item);
}

-- an item without a fault is no fault of the whole
no_fault : (r s : Request) (at : ℕ) (item : Item) → r ≡ s → item_fault r item ≡ None → entry_fault s (record { at = at; asked = Ok item }) ≡ None
no_fault r s at item same none = ap (option_map (λ kind. word_fault kind at)) (ap (λ q. item_fault q item) (sym same) ∙ none)

-- the item that is next was taken
pub read_item :
    (old new : Draft) (whole left : List Entry) (at : ℕ) (item : Item) → IsReading old whole (record { at = at; asked = Ok item } ∷ left) → Took old new at item
    → IsReading new whole left
read_item old new whole left at item reading took =
    let e : Entry = record { at = at; asked = Ok item } in
    record {
      before = reading.before ++ e ∷ [];
      split = reading.split ∙ sym (append_assoc reading.before (e ∷ []) left);
      same_fault =
          reading.same_fault
          ∙ ap (λ o. option_or o (first_entry_fault (reading.before ++ e ∷ []) left)) (no_fault _ _ at item reading.has.request took.faultless);
      has = took_item old new at item reading.before reading.has took;
    }

-- the entry that is next was taken
pub read_entry : (old new : Draft) (whole left : List Entry) (e : Entry) → IsReading old whole (e ∷ left) → TookEntry old new e → IsReading new whole left
read_entry old new whole left e reading taken =
    let is : e ≡ record { at = e.at; asked = Ok taken.item } = λ i. record { at = e.at; asked = taken.asked i } in
    read_item old new whole left e.at taken.item (subst (λ (x : Entry). IsReading old whole (x ∷ left)) is reading) taken.took

-- the entry that is next has a fault, which is the first
pub read_fault :
    (draft : Draft) (whole left : List Entry) (e : Entry) (fault : UsageFault) → IsReading draft whole (e ∷ left) → entry_fault (request_in draft) e ≡ Some fault
    → first_entry_fault [] whole ≡ Some fault
read_fault draft whole left e fault reading at_entry =
    reading.same_fault
    ∙ ap (λ o. option_or o (first_entry_fault (reading.before ++ e ∷ []) left)) (ap (λ r. entry_fault r e) (sym reading.has.request) ∙ at_entry)

-- after the last entry there is no fault
pub read_whole : (draft : Draft) (whole : List Entry) → IsReading draft whole [] → (first_entry_fault [] whole ≡ None) × IsDraftOf draft whole
read_whole draft whole reading =
    (reading.same_fault, subst (λ es. IsDraftOf draft es) (sym (append-nil reading.before) ∙ sym reading.split) reading.has)

-- what is left is shorter, whichever way the test goes
shorter : (b : Bool) (next : List ℕ) (words : List (List ℕ)) → length (cond b words (next ∷ words)) ≤ length (next ∷ words)
shorter true next words = omega arith
shorter false next words = omega arith

-- the words that are left are no more
pub left_shorter : (word : List ℕ) (after : List (List ℕ)) → length (left_after word after) ≤ length after
left_shorter word [] = omega arith
left_shorter word (next ∷ words) = shorter (takes_next word) next words

-- the words after `--` are sources
pub entries_end : (at : ℕ) (word : List ℕ) (after : List (List ℕ)) → ends_options word ≡ true → entries at (word ∷ after) ≡ sources (at + 1) after
entries_end at word [] ends = rw ends refl
entries_end at word (next ∷ words) ends = rw ends refl

-- the next entry, whichever way the test goes
next_entry :
    (b : Bool) (at : ℕ) (word next : List ℕ) (words : List (List ℕ))
    → cond b (entry at word (Some next) ∷ entries (at + 2) words) (entry at word None ∷ entries (at + 1) (next ∷ words))
    ≡ entry at word (cond b (Some next) None) ∷ entries (at + 1 + (length (next ∷ words) - length (cond b words (next ∷ words)))) (cond b words (next ∷ words))
next_entry true at word next words =
    let n : at + 2 ≡ at + 1 + (length (next ∷ words) - length words) = omega arith in
    ap (λ n. entry at word (Some next) ∷ entries n words) n
next_entry false at word next words =
    let n : at + 1 ≡ at + 1 + (length (next ∷ words) - length (next ∷ words)) = omega arith in
    ap (λ n. entry at word None ∷ entries n (next ∷ words)) n

-- another word is an entry, with the next one where it takes that
pub entries_next :
    (at : ℕ) (word : List ℕ) (after : List (List ℕ)) → ends_options word ≡ false
    → entries at (word ∷ after) ≡ entry at word (taken_next word after) ∷ entries (at + 1 + (length after - length (left_after word after))) (left_after word after)
entries_next at word [] ends = rw ends refl
entries_next at word (next ∷ words) ends = rw ends (next_entry (takes_next word) at word next words)

-- what shows only after the last word
late_is :
    (count : ℕ) (draft : Draft) (es : List Entry) (o : Option UsageFault) → IsDraftOf draft es → late_fault count (request_in draft) draft.normalized_at ≡ o
    → late_fault count (request es) (normalized_at es) ≡ o
late_is count draft es o has late =
    sym (ap (λ r. late_fault count r draft.normalized_at) has.request ∙ ap (λ known. late_fault count (request es) known) has.noted) ∙ late

-- the answer of words without a fault from left to right
answered :
    (ws : List (List ℕ)) (late : Option UsageFault) → first_entry_fault [] (entries 1 ws) ≡ None
    → late_fault (length ws) (request (entries 1 ws)) (normalized_at (entries 1 ws)) ≡ late → words ws ≡ unless_fault late (request (entries 1 ws))
unfolding words
answered ws late none is =
    ap (λ o. unless_fault (option_or o (late_fault (length ws) (request (entries 1 ws)) (normalized_at (entries 1 ws)))) (request (entries 1 ws))) none
    ∙ ap (λ o. unless_fault o (request (entries 1 ws))) is

-- the plan is what the words ask for
pub words_read :
    (ws : List (List ℕ)) (draft : Draft) (plan : Plan) → (first_entry_fault [] (entries 1 ws) ≡ None) × IsDraftOf draft (entries 1 ws)
    → Finishes (length ws) draft (Ok plan) → words ws ≡ Ok (request_of plan)
words_read ws draft plan read done =
    answered ws None read.0 (late_is (length ws) draft _ None read.1 done.0) ∙ ap Ok (sym (done.1 ∙ read.1.request))

-- the fault that shows only after the last word is the words' first
pub words_late :
    (ws : List (List ℕ)) (draft : Draft) (fault : UsageFault) → (first_entry_fault [] (entries 1 ws) ≡ None) × IsDraftOf draft (entries 1 ws)
    → late_fault (length ws) (request_in draft) draft.normalized_at ≡ Some fault → words ws ≡ Err fault
words_late ws draft fault read late = answered ws (Some fault) read.0 (late_is (length ws) draft _ (Some fault) read.1 late)

-- the first fault from left to right is the words' first
pub words_fault : (ws : List (List ℕ)) (fault : UsageFault) → first_entry_fault [] (entries 1 ws) ≡ Some fault → words ws ≡ Err fault
unfolding words
words_fault ws fault first =
    ap (λ o. unless_fault (option_or o (late_fault (length ws) (request (entries 1 ws)) (normalized_at (entries 1 ws)))) (request (entries 1 ws))) first

-- an item that was refused has the first fault, unless memory ran out
pub item_refused :
    (A B : Type 0) (old new after : Draft) (whole left : List Entry) (at : ℕ) (item : Item) (e : UsageRefusal) (r : Result B UsageRefusal)
    → IsReading old whole (record { at = at; asked = Ok item } ∷ left) → TakesItem {A = A} old new at item (Err e) → r ≡ Err e → ReadsAll whole after r
item_refused A B old new after whole left at item (Fault fault) r reading refused is =
    let same : word_fault fault.kind at ≡ fault = λ i. record { kind = fault.kind; word = sym refused.1 i } in
    let first : first_entry_fault [] whole ≡ Some fault = read_fault old whole left _ fault reading (ap (option_map (λ kind. word_fault kind at)) refused.0 ∙ ap Some same) in
    subst (λ (x : Result B UsageRefusal). ReadsAll whole after x) (sym is) first
item_refused A B old new after whole left at item Memory r reading refused is =
    subst (λ (x : Result B UsageRefusal). ReadsAll whole after x) (sym is) tt

-- an entry that was refused has the first fault, unless memory ran out
pub entry_refused :
    (A B : Type 0) (old new after : Draft) (whole left : List Entry) (entry : Entry) (e : UsageRefusal) (r : Result B UsageRefusal)
    → IsReading old whole (entry ∷ left) → TakesEntry {A = A} old new entry (Err e) → r ≡ Err e → ReadsAll whole after r
entry_refused A B old new after whole left entry (Fault fault) r reading refused is =
    subst (λ (x : Result B UsageRefusal). ReadsAll whole after x) (sym is) (read_fault old whole left entry fault reading refused)
entry_refused A B old new after whole left entry Memory r reading refused is =
    subst (λ (x : Result B UsageRefusal). ReadsAll whole after x) (sym is) tt

-- the sources from a place on begin with the one there
pub sources_next :
    (words : List (List ℕ)) (i at : ℕ) (word path : List ℕ) → i < length words → word ≡ get_or words i word → path ≡ word
    → sources at (drop i words) ≡ record { at = at; asked = Ok (Source path) } ∷ sources (at + 1) (drop (i + 1) words)
sources_next words i at word path below is same =
    ap (sources at) (drop_more words i word below ∙ ap (λ (w : List ℕ). w ∷ drop (i + 1) words) (sym (same ∙ is)))

-- after `--` the words that are left are sources
pub read_end :
    (draft : Draft) (whole : List Entry) (ws rest : List (List ℕ)) (word : List ℕ) (after : List (List ℕ))
    → IsReading draft whole (entries (length ws - length rest + 1) rest) → rest ≡ word ∷ after → length rest ≤ length ws → ends_options word ≡ true
    → IsReading draft whole (sources (length ws - length after + 1) after)
read_end draft whole ws rest word after reading is within ends =
    let len : length rest ≡ length after + 1 = ap length is ∙ sym (add-one (length after)) in
    let at : length ws - length rest + 1 + 1 ≡ length ws - length after + 1 = omega arith in
    let left : entries (length ws - length rest + 1) rest ≡ sources (length ws - length after + 1) after =
    ap (entries (length ws - length rest + 1)) is ∙ entries_end _ word after ends ∙ ap (λ n. sources n after) at in
    subst (λ (es : List Entry). IsReading draft whole es) left reading

-- another word is the next entry
pub read_next :
    (draft : Draft) (whole : List Entry) (ws rest : List (List ℕ)) (word : List ℕ) (after left : List (List ℕ))
    → IsReading draft whole (entries (length ws - length rest + 1) rest) → rest ≡ word ∷ after → length rest ≤ length ws → ends_options word ≡ false
    → left ≡ left_after word after
    → IsReading draft whole (entry (length ws - length after) word (taken_next word after) ∷ entries (length ws - length left + 1) left)
read_next draft whole ws rest word after left reading is within ends left_is =
    let len : length rest ≡ length after + 1 = ap length is ∙ sym (add-one (length after)) in
    let at : length ws - length rest + 1 ≡ length ws - length after = omega arith in
    let fewer : length left ≤ length after = rw left_is (left_shorter word after) in
    let then_at : length ws - length after + 1 + (length after - length left) ≡ length ws - length left + 1 = omega arith in
    let here : entries (length ws - length rest + 1) rest ≡ entry (length ws - length after) word (taken_next word after) ∷ entries (length ws - length left + 1) left =
    ap (entries (length ws - length rest + 1)) is
    ∙ ap (λ n. entries n (word ∷ after)) at
    ∙ entries_next (length ws - length after) word after ends
    ∙ ap (λ (ls : List (List ℕ)). entry (length ws - length after) word (taken_next word after) ∷ entries (length ws - length after + 1 + (length after - length ls)) ls) (sym left_is)
    ∙ ap (λ n. entry (length ws - length after) word (taken_next word after) ∷ entries n left) then_at in
    subst (λ (es : List Entry). IsReading draft whole es) here reading

-- a refusal while words are read is the words' answer
pub refused_reads :
    (A : Type 0) (ws : List (List ℕ)) (new : Draft) (e : UsageRefusal) (r : Result Plan UsageRefusal)
    → ReadsAll {A = A} (entries 1 ws) new (Err e) → r ≡ Err e → ReadsPlan ws r
refused_reads A ws new (Fault fault) r refused is = subst (λ (x : Result Plan UsageRefusal). ReadsPlan ws x) (sym is) (words_fault ws fault refused)
refused_reads A ws new Memory r refused is = subst (λ (x : Result Plan UsageRefusal). ReadsPlan ws x) (sym is) tt

-- what is found after the last word is the words' answer
pub finished_reads :
    (ws : List (List ℕ)) (draft : Draft) (r : Result Plan UsageRefusal)
    → (first_entry_fault [] (entries 1 ws) ≡ None) × IsDraftOf draft (entries 1 ws) → Finishes (length ws) draft r → ReadsPlan ws r
finished_reads ws draft (Ok plan) read done = words_read ws draft plan read done
finished_reads ws draft (Err (Fault fault)) read late = words_late ws draft fault read late
finished_reads ws draft (Err Memory) read late = tt
