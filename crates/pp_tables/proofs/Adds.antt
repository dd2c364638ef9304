-- Bytes that make one change to a message, whatever follows them.
use Rattle.std.proofs.Common.{◌≡◌, ℕ, ◌+◌, ◌<◌, ◌≤◌, ◌^◌, Bool, true, false, cond, eqb, List, [], ◌∷◌, ◌++◌, length, Option, None, refl, sym, ap, subst, ◌∙◌, inl, inr, append_assoc, arith}
use Rattle.std.specs.List.{flat_map, AllByRecursion}
use Rattle.std.proofs.lemmas.List.{append-nil, length-append}
use Rattle.std.proofs.lemmas.Bool.Decides.{eqb_tells}
use Rattle.pp_wire.specs.declared.fault.WireFault.{WireFault}
use Rattle.pp_wire.specs.Walk.{Walk, more, walk_in}
use Rattle.pp_wire.specs.Fields.{Content, Varint, Bytes, Item, fields, numbers}
use Rattle.pp_wire.specs.Spelling.{varint_bytes, tag_bytes, number_field, bytes_field, packed_field}
use Rattle.pp_wire.proofs.Again.{number_field_again, bytes_field_again, packed_again}
use Rattle.pp_tables.specs.Message.{Rule, Scalar, Numbers, Nested, fault_by, fault_of, or_else, walk_fault, fault_in}

-- a message as it is filled
pub record Message (X : Type 0) : Type 0 where
  pub rules : ℕ → Rule
  pub put : X → Item → X
  pub filled : X → List Item → X
  pub none : (m : X) → filled m [] ≡ m
  pub more : (m : X) (i : Item) (items : List Item) → filled (put m i) items ≡ filled m (i ∷ items)

abbrev pub item_of : ℕ → Content → ℕ → Item
item_of number content at = record { number = number; content = content; at = at }

pub record Adds {X : Type 0} (M : Message X) (bytes : List ℕ) (change : X → X) : Type 0 where
  pub fault : (rest : List ℕ) (base : ℕ) → walk_fault M.rules (fields (bytes ++ rest) base) ≡ walk_fault M.rules (fields rest (base + length bytes))
  pub value : (old : X) (rest : List ℕ) (base : ℕ) → M.filled old (fields (bytes ++ rest) base).items ≡ M.filled (change old) (fields rest (base + length bytes)).items

-- the whole of a message
pub record Whole {X : Type 0} (M : Message X) (bytes : List ℕ) (change : X → X) : Type 0 where
  pub fault : (base : ℕ) → fault_in M.rules bytes base ≡ None
  pub value : (old : X) (base : ℕ) → M.filled old (fields bytes base).items ≡ change old

pub nothing : (base : ℕ) → fields [] base ≡ record { items = []; fault = None }
unfolding walk_in
nothing base = refl

module _ {X : Type 0} (M : Message X) where
  pub adds_same : (bytes : List ℕ) (f g : X → X) → ((old : X) → f old ≡ g old) → Adds M bytes f → Adds M bytes g
  adds_same bytes f g same a = record {
    fault = a.fault;
    value = λ old rest base. a.value old rest base ∙ ap (λ x. M.filled x (fields rest (base + length bytes)).items) (same old);
  }

  pub adds_none : Adds M [] (λ old. old)
  adds_none =
      let start : (base : ℕ) → base ≡ base + 0 = λ base. omega arith in
      record {
        fault = λ rest base. ap (λ b. walk_fault M.rules (fields rest b)) (start base);
        value = λ old rest base. ap (λ b. M.filled old (fields rest b).items) (start base);
      }

  pub adds_then : (a b : List ℕ) (f g : X → X) → Adds M a f → Adds M b g → Adds M (a ++ b) (λ old. g (f old))
  adds_then a b f g p q =
      let place : (base : ℕ) → (base + length a) + length b ≡ base + length (a ++ b) = λ base. omega (arith, length-append a b) in
      record {
        fault = λ rest base.
            ap (λ (bytes : List ℕ). walk_fault M.rules (fields bytes base)) (append_assoc a b rest)
            ∙ p.fault (b ++ rest) base ∙ q.fault rest (base + length a) ∙ ap (λ at. walk_fault M.rules (fields rest at)) (place base);
        value = λ old rest base.
            ap (λ (bytes : List ℕ). M.filled old (fields bytes base).items) (append_assoc a b rest)
            ∙ p.value old (b ++ rest) base ∙ q.value (f old) rest (base + length a) ∙ ap (λ at. M.filled (g (f old)) (fields rest at).items) (place base);
      }

  pub whole : (bytes : List ℕ) (change : X → X) → Adds M bytes change → Whole M bytes change
  whole bytes change a =
      record {
        fault = λ base.
            ap (λ (b : List ℕ). walk_fault M.rules (fields b base)) (sym (append-nil bytes))
            ∙ a.fault [] base ∙ ap (walk_fault M.rules) (nothing (base + length bytes));
        value = λ old base.
            ap (λ (b : List ℕ). M.filled old (fields b base).items) (sym (append-nil bytes))
            ∙ a.value old [] base ∙ ap (λ (w : Walk Item). M.filled (change old) w.items) (nothing (base + length bytes)) ∙ M.none (change old);
      }

  pub one_field : (bytes : List ℕ) (i : ℕ → Item) (change : X → X)
      → ((rest : List ℕ) (base : ℕ) → fields (bytes ++ rest) base ≡ more (i base) (fields rest (base + length bytes)))
      → ((base : ℕ) → fault_of M.rules (i base) ≡ None) → ((old : X) (base : ℕ) → M.put old (i base) ≡ change old) → Adds M bytes change
  one_field bytes i change step sound put =
      record {
        fault = λ rest base.
            ap (walk_fault M.rules) (step rest base) ∙ ap (λ (f : Option WireFault). or_else f (walk_fault M.rules (fields rest (base + length bytes)))) (sound base);
        value = λ old rest base.
            ap (λ (w : Walk Item). M.filled old w.items) (step rest base) ∙ sym (M.more old (i base) (fields rest (base + length bytes)).items)
            ∙ ap (λ x. M.filled x (fields rest (base + length bytes)).items) (put old base);
      }

  -- a scalar, which changes nothing where it is left out
  pub scalar_adds : (n v : ℕ) (set : Bool → X → X) → 1 ≤ n → n < 2 ^ 29 → v < 2 ^ 64 → M.rules n ≡ Scalar
      → ((old : X) → set true old ≡ old) → ((old : X) (at : ℕ) → M.put old (item_of n (Varint v) at) ≡ set false old) → Adds M (number_field n v) (set (eqb v 0))
  scalar_adds n v set least below fits rule left_out put =
      elim (eqb_tells v 0) [
        | inl t ↦
            let empty : number_field n v ≡ [] = ap (λ b. cond b [] (tag_bytes n 0 ++ varint_bytes v)) t.0 in
            let same : (old : X) → old ≡ set (eqb v 0) old = λ old. sym (left_out old) ∙ ap (λ b. set b old) (sym t.0) in
            subst (λ (b : List ℕ). Adds M b (set (eqb v 0))) (sym empty) (adds_same [] (λ old. old) (set (eqb v 0)) same adds_none)
        | inr t ↦
            let some : v ≡ 0 → ⊥ = t.1 in
            one_field (number_field n v) (item_of n (Varint v)) (set (eqb v 0)) (λ rest base. number_field_again n v rest base least below (omega (arith, some)) fits)
            (λ base. ap (λ r. fault_by r (Varint v) base) rule) (λ old base. put old base ∙ ap (λ b. set b old) (sym t.0))
      ]

  -- a run, of which put makes the change and in which there is no fault
  pub run_adds : (n : ℕ) (payload : List ℕ) (change : X → X) → 1 ≤ n → n < 2 ^ 29 → length payload < 2 ^ 64
      → ((place base : ℕ) → fault_of M.rules (item_of n (Bytes payload place) base) ≡ None) → ((old : X) (place base : ℕ) → M.put old (item_of n (Bytes payload place) base) ≡ change old)
      → Adds M (bytes_field n payload) change
  run_adds n payload change least below short sound put =
      let place : ℕ → ℕ = λ base. base + length (tag_bytes n 2 ++ varint_bytes (length payload)) in
      one_field (bytes_field n payload) (λ base. item_of n (Bytes payload (place base)) base) change (λ rest base. bytes_field_again n payload rest base least below short)
      (λ base. sound (place base) base) (λ old base. put old (place base) base)

  -- packed numbers
  pub packed_adds : (n : ℕ) (list : List ℕ) (set : X → List ℕ → X) → 1 ≤ n → n < 2 ^ 29 → AllByRecursion (λ k. k < 2 ^ 64) list → length (packed_field n list) < 2 ^ 64 → M.rules n ≡ Numbers
      → ((old : X) → set old [] ≡ old) → ((old : X) (payload : List ℕ) (place at : ℕ) → M.put old (item_of n (Bytes payload place) at) ≡ set old (numbers payload at).items)
      → Adds M (packed_field n list) (λ old. set old list)
  packed_adds n [] set least below fits short rule nil put = adds_same [] (λ old. old) (λ old. set old []) (λ old. sym (nil old)) adds_none
  packed_adds n (k ∷ list) set least below fits short rule nil put =
      let payload = flat_map varint_bytes (k ∷ list) in
      let again : (at : ℕ) → numbers payload at ≡ record { items = k ∷ list; fault = None } = λ at. packed_again (k ∷ list) at fits in
      run_adds n payload (λ old. set old (k ∷ list)) least below (omega (arith, short, length-append (tag_bytes n 2 ++ varint_bytes (length payload)) payload))
      (λ place base. ap (λ r. fault_by r (Bytes payload place) base) rule ∙ ap (λ (w : Walk ℕ). w.fault) (again base))
      (λ old place base. put old payload place base ∙ ap (λ (w : Walk ℕ). set old w.items) (again base))

  -- one field for each of a list
  pub each_adds : {Y : Type 0} (P : Y → Type 0) (part : Y → List ℕ) (add : X → Y → X) (all : X → List Y → X)
      → ((old : X) → all old [] ≡ old) → ((old : X) (y : Y) (ys : List Y) → all (add old y) ys ≡ all old (y ∷ ys))
      → ((y : Y) → P y → length (part y) < 2 ^ 64 → Adds M (part y) (λ old. add old y))
      → (ys : List Y) → AllByRecursion P ys → length (flat_map part ys) < 2 ^ 64 → Adds M (flat_map part ys) (λ old. all old ys)
  each_adds P part add all nil cons one [] fits short = adds_same [] (λ old. old) (λ old. all old []) (λ old. sym (nil old)) adds_none
  each_adds P part add all nil cons one (y ∷ ys) fits short =
      let len = length-append (part y) (flat_map part ys) in
      let parts = adds_then (part y) (flat_map part ys) (λ old. add old y) (λ old. all old ys) (one y fits.0 (omega (arith, len, short))) (each_adds P part add all nil cons one ys fits.1 (omega (arith, len, short))) in
      adds_same (part y ++ flat_map part ys) (λ old. all (add old y) ys) (λ old. all old (y ∷ ys)) (λ old. cons old y ys) parts

-- a message in a message
pub message_adds : {X Y : Type 0} (M : Message X) (I : Message Y) (n : ℕ) (payload : List ℕ) (set : X → Y → X) (empty y : Y) (change : Y → Y) → 1 ≤ n → n < 2 ^ 29 → length payload < 2 ^ 64
    → M.rules n ≡ Nested (fault_in I.rules) → Whole I payload change → change empty ≡ y
    → ((old : X) (place at : ℕ) → M.put old (item_of n (Bytes payload place) at) ≡ set old (I.filled empty (fields payload place).items))
    → Adds M (bytes_field n payload) (λ old. set old y)
message_adds M I n payload set empty y change least below short rule w is put =
    run_adds M n payload (λ old. set old y) least below short
    (λ place base. ap (λ r. fault_by r (Bytes payload place) base) rule ∙ w.fault place)
    (λ old place base. put old place base ∙ ap (set old) (w.value empty place ∙ is))

-- a table of messages: get and update are those of the list in the message
pub table_adds : {X Y : Type 0} (M : Message X) (I : Message Y) (n : ℕ) (P : Y → Type 0) (bytes_of : Y → List ℕ) (empty : Y) (change : Y → Y → Y) (get : X → List Y) (update : X → List Y → X)
    → ((old : X) → update old (get old) ≡ old) → ((old : X) (ys : List Y) → get (update old ys) ≡ ys) → ((old : X) (xs ys : List Y) → update (update old xs) ys ≡ update old ys)
    → 1 ≤ n → n < 2 ^ 29 → M.rules n ≡ Nested (fault_in I.rules) → ((y : Y) → P y → length (bytes_of y) < 2 ^ 64 → Whole I (bytes_of y) (change y)) → ((y : Y) → P y → change y empty ≡ y)
    → ((old : X) (b : List ℕ) (place at : ℕ) → M.put old (item_of n (Bytes b place) at) ≡ update old (get old ++ I.filled empty (fields b place).items ∷ []))
    → (ys : List Y) → AllByRecursion P ys → length (flat_map (λ y. bytes_field n (bytes_of y)) ys) < 2 ^ 64
    → Adds M (flat_map (λ y. bytes_field n (bytes_of y)) ys) (λ old. update old (get old ++ ys))
table_adds {X} {Y} M I n P bytes_of empty change get update same got twice least below rule each back put ys fits short =
    each_adds M P (λ y. bytes_field n (bytes_of y)) (λ old y. update old (get old ++ y ∷ [])) (λ old ys. update old (get old ++ ys))
    (λ old. ap (update old) (append-nil (get old)) ∙ same old)
    (λ old y ys.
    twice old (get old ++ y ∷ []) (get (update old (get old ++ y ∷ [])) ++ ys)
    ∙ ap (λ (xs : List Y). update old (xs ++ ys)) (got old (get old ++ y ∷ [])) ∙ ap (update old) (append_assoc (get old) (y ∷ []) ys))
    (λ y p len.
    let short : length (bytes_of y) < 2 ^ 64 = omega (arith, len, length-append (tag_bytes n 2 ++ varint_bytes (length (bytes_of y))) (bytes_of y)) in
    message_adds M I n (bytes_of y) (λ old y. update old (get old ++ y ∷ [])) empty y (change y) least below short rule (each y p short) (back y p) (λ old place at. put old (bytes_of y) place at))
    ys fits short
