-- Tables of keys after one event more.
use Rattle.std.proofs.Common.{◌≡◌, ◌≢◌, ℕ, ◌+◌, ◌<◌, Bool, true, false, true≢false, cond, List, [], ◌∷◌, ◌++◌, map, length, get_or, set, refl, sym, ap, subst, ◌∙◌, inl, inr, arith}
use Rattle.std.specs.Str.{bytes_eq}
use Rattle.std.proofs.lemmas.Bool.{cases_lt}
use Rattle.std.proofs.lemmas.List.{map-append, append-nil, length-append, get_or_default}
use Rattle.std.proofs.Math.Seq.{get_or-append_seam}
use Rattle.std.proofs.lemmas.List.Elements.{filter-append}
use Rattle.std.proofs.lemmas.Slice.Eq.{bytes_eq-Decides}
use Rattle.pp_model.specs.FirstSight.{seen_with, distinct, place_of}
use Rattle.pp_model.proofs.FirstSightLemmas.{distinct_push}
use Rattle.pp_samples.specs.declared.tag_table.TagTable.{TagTable}
use Rattle.pp_samples.specs.declared.key_table.TagKeyTable.{TagKeyTable}
use Rattle.pp_samples.specs.TagLines.{TagTexts, same_tag, has_label_key}
use Rattle.pp_samples.specs.Names.{key_tag}
use Rattle.pp_samples.specs.Tables.{Event, key_event, events_of_key, IsTableOf, AreKeys, Roomed, has, made, AddsAt, AreSmall}
use Rattle.pp_samples.proofs.TagNamesLemmas.{tag_decides}
use Rattle.pp_samples.proofs.SmallLemmas.{small_key}
use Rattle.pp_samples.proofs.Slots.{Written, write_old, write_new, place_within, seen_old, seen_new, own_place, old_place, new_place}

-- the events of a key, with one more
of_this : (events : List Event) (e : Event) → events_of_key e.tag.key (events ++ e ∷ []) ≡ events_of_key e.tag.key events ++ e ∷ []
of_this events e =
    filter-append (λ x. has_label_key e.tag.key x.tag) events (e ∷ [])
    ∙ ap (λ (b : Bool). events_of_key e.tag.key events ++ cond b (e ∷ []) []) ((bytes_eq-Decides e.tag.key e.tag.key).1 refl)

of_other : (key : List ℕ) (events : List Event) (e : Event) → bytes_eq key e.tag.key ≡ false → events_of_key key (events ++ e ∷ []) ≡ events_of_key key events
of_other key events e other =
    filter-append (λ x. has_label_key key x.tag) events (e ∷ [])
    ∙ ap (λ (b : Bool). events_of_key key events ++ cond b (e ∷ []) []) other ∙ append-nil (events_of_key key events)

-- other keys have other tags
apart : (a b : List ℕ) → bytes_eq a b ≡ false → key_tag a ≢ key_tag b
apart a b other same = true≢false (sym ((bytes_eq-Decides a b).1 (ap (λ (t : TagTexts). t.key) same)) ∙ other)

-- What is known of the keys' names and tables once an event was added to the table of its key.
pub record Added (events : List Event) (e : Event) (names new_names : List TagTexts) (tables new : List TagTable) : Type 0 where
  pub none : TagTable
  pub table : TagTable
  pub written : Written none names tables (key_tag e.tag.key) table new_names new
  pub own : IsTableOf (events_of_key e.tag.key events ++ e ∷ []) table
  pub inside : place_of same_tag new_names (key_tag e.tag.key) < length new_names
  pub before : (t : TagTexts) → t ≢ key_tag e.tag.key → place_of same_tag names t ≡ length names → place_of same_tag new_names t ≡ length new_names
  pub kept : (t : TagTexts) → t ≢ key_tag e.tag.key → place_of same_tag names t < length names → place_of same_tag new_names t < length new_names

module _ (events : List Event) (e : Event) (names : List TagTexts) (tables roomed new : List TagTable) (n : ℕ) (count : length tables ≡ length names)
    (known : (key : List ℕ) → (k : ℕ) → (d : TagTable) → k ≡ place_of same_tag names (key_tag key) → k < length tables → IsTableOf (events_of_key key events) (get_or tables k d))
    (absent : (key : List ℕ) → place_of same_tag names (key_tag key) ≡ length names → events_of_key key events ≡ [])
    (at : n ≡ place_of same_tag names (key_tag e.tag.key)) (adds : AddsAt roomed n e new) (small : AreSmall (events_of_key e.tag.key events ++ e ∷ [])) where
  pub added : Roomed tables roomed n → Added events e names (seen_with same_tag names (key_tag e.tag.key)) tables new
  added (has within same) =
      let x : TagTexts = key_tag e.tag.key in
      let old : place_of same_tag names x < length names = omega (arith, within, at, count) in
      rw (seen_old names x old) (record {
        none = adds.table;
        table = adds.table;
        written =
            subst (λ (ns : List TagTexts). Written adds.table names tables x adds.table ns new) (seen_old names x old)
            (write_old adds.table names tables new x adds.table count old (adds.is ∙ (λ i. set (same i) (at i) adds.table)));
        own =
            adds.adds (events_of_key e.tag.key events) adds.table
            (subst (λ (ts : List TagTable). IsTableOf (events_of_key e.tag.key events) (get_or ts n adds.table)) (sym same)
            (known e.tag.key n adds.table at within)) small;
        inside = old;
        before = λ t other past. past;
        kept = λ t other here. here;
      })
  added (made empty is past same) =
      let x : TagTexts = key_tag e.tag.key in
      let fresh : place_of same_tag names x ≡ length names = omega (arith, past, at, count, place_within names x) in
      let more : length (names ++ x ∷ []) ≡ length names + 1 = length-append names (x ∷ []) in
      let here : n ≡ length tables = omega (arith, fresh, at, count) in
      rw (seen_new names x fresh) (record {
        none = empty;
        table = adds.table;
        written =
            subst (λ (ns : List TagTexts). Written empty names tables x adds.table ns new) (seen_new names x fresh)
            (write_new empty names tables new x adds.table count fresh (adds.is ∙ (λ i. set (same i) (at i) adds.table)));
        own =
            adds.adds (events_of_key e.tag.key events) empty
            (subst (λ (t : TagTable). IsTableOf (events_of_key e.tag.key events) t)
            (sym ((λ i. get_or (same i) (here i) empty) ∙ get_or-append_seam tables empty [] empty))
            (subst (λ (es : List Event). IsTableOf es empty) (sym (absent e.tag.key fresh)) is)) small;
        inside = omega (arith, own_place names x fresh, fresh, more);
        before = λ t other gone. new_place names x t other gone ∙ sym more;
        kept = λ t other there. omega (arith, old_place names x t there, there, more);
      })

-- One event more.
pub keys_more : (events : List Event) (e : Event) (old : TagKeyTable) (roomed : List TagTable) (new : TagKeyTable) (n : ℕ) → AreKeys events old
    → IsTableOf (map key_event events ++ key_event e ∷ []) new.keys → n ≡ place_of same_tag old.keys.names (key_tag e.tag.key)
    → Roomed old.tags.items roomed n → AddsAt roomed n e new.tags.items → AreSmall (events ++ e ∷ []) → AreKeys (events ++ e ∷ []) new
keys_more events e old roomed new n is sums at room adds small =
    let x : TagTexts = key_tag e.tag.key in
    let names : List TagTexts = old.keys.names in
    let seen : new.keys.names ≡ seen_with same_tag names x =
    sums.tags ∙ ap (distinct same_tag) (map-append (λ (v : Event). v.tag) (map key_event events) (key_event e ∷ []))
    ∙ distinct_push same_tag (λ t. (tag_decides t t).1 refl) (map (λ (v : Event). v.tag) (map key_event events)) x
    ∙ ap (λ (ns : List TagTexts). seen_with same_tag ns x) (sym is.sums.tags) in
    let a : Added events e names new.keys.names old.tags.items new.tags.items =
    subst (λ (ns : List TagTexts). Added events e names ns old.tags.items new.tags.items) (sym seen)
    (added events e names old.tags.items roomed new.tags.items n is.count is.tables is.absent at adds
    (subst AreSmall (of_this events e) (small_key e.tag.key (events ++ e ∷ []) small)) room) in
    record {
      sums = subst (λ (es : List Event). IsTableOf es new.keys) (sym (map-append key_event events (e ∷ []))) sums;
      count = a.written.count;
      tables = λ key k d place below. tables_of a key k d place below (bytes_eq key e.tag.key) refl;
      absent = λ key gone. absent_of a key gone (bytes_eq key e.tag.key) refl;
    }
  where
    tables_of : (a : Added events e old.keys.names new.keys.names old.tags.items new.tags.items) (key : List ℕ) (k : ℕ) (d : TagTable)
        → k ≡ place_of same_tag new.keys.names (key_tag key) → k < length new.tags.items → (b : Bool) → bytes_eq key e.tag.key ≡ b
        → IsTableOf (events_of_key key (events ++ e ∷ [])) (get_or new.tags.items k d)
    tables_of a key k d place below true same =
        let own : key ≡ e.tag.key = (bytes_eq-Decides key e.tag.key).0 same in
        let table : get_or new.tags.items k d ≡ a.table =
        get_or_default new.tags.items k d a.none below
        ∙ ap (λ (j : ℕ). get_or new.tags.items j a.none) (place ∙ ap (λ (w : List ℕ). place_of same_tag new.keys.names (key_tag w)) own) ∙ a.written.this in
        subst (λ (t : TagTable). IsTableOf (events_of_key key (events ++ e ∷ [])) t) (sym table)
        (subst (λ (es : List Event). IsTableOf es a.table)
        (sym (of_this events e) ∙ ap (λ (w : List ℕ). events_of_key w (events ++ e ∷ [])) (sym own)) a.own)
    tables_of a key k d place below false other =
        let t : TagTexts = key_tag key in
        let strange : t ≢ key_tag e.tag.key = apart key e.tag.key other in
        let there : place_of same_tag old.keys.names t < length old.tags.items =
        elim (cases_lt (place_of same_tag old.keys.names t) (length old.keys.names)) [
          | inl here ↦ omega (arith, here, is.count)
          | inr past ↦
              absurd (omega (
                arith,
                place,
                below,
                a.written.count,
                a.before t strange (let e2 : place_of same_tag old.keys.names t ≡ length old.keys.names = omega (arith, past, place_within old.keys.names t) in e2),
              ))
        ] in
        let table : get_or new.tags.items k d ≡ get_or old.tags.items (place_of same_tag old.keys.names t) a.none =
        get_or_default new.tags.items k d a.none below ∙ ap (λ (j : ℕ). get_or new.tags.items j a.none) place ∙ a.written.others t strange in
        subst (λ (w : TagTable). IsTableOf (events_of_key key (events ++ e ∷ [])) w) (sym table)
        (subst (λ (es : List Event). IsTableOf es (get_or old.tags.items (place_of same_tag old.keys.names t) a.none)) (sym (of_other key events e other))
        (is.tables key (place_of same_tag old.keys.names t) a.none refl there))

    absent_of : (a : Added events e old.keys.names new.keys.names old.tags.items new.tags.items) (key : List ℕ)
        → place_of same_tag new.keys.names (key_tag key) ≡ length new.keys.names → (b : Bool) → bytes_eq key e.tag.key ≡ b
        → events_of_key key (events ++ e ∷ []) ≡ []
    absent_of a key gone true same =
        let own : key ≡ e.tag.key = (bytes_eq-Decides key e.tag.key).0 same in
        absurd (omega (arith, a.inside, gone, ap (λ (w : List ℕ). place_of same_tag new.keys.names (key_tag w)) own))
    absent_of a key gone false other =
        let t : TagTexts = key_tag key in
        elim (cases_lt (place_of same_tag old.keys.names t) (length old.keys.names)) [
          | inl here ↦ absurd (omega (arith, a.kept t (apart key e.tag.key other) here, gone))
          | inr past ↦
              of_other key events e other
              ∙ is.absent key (let e2 : place_of same_tag old.keys.names t ≡ length old.keys.names = omega (arith, past, place_within old.keys.names t) in e2)
        ]
