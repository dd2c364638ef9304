-- The sums that events come to are those over the samples that they are of.
use Rattle.std.proofs.Common.{◌≡◌, ℕ, ◌+◌, ◌<◌, ◌≤◌, eqb, Bool, true, false, true≢false, cond, ◌||◌, ℤ, pos, ◌+ℤ◌, nat_abs, List, [], ◌∷◌, ◌++◌, map, fold, refl, sym, ap, ◌∙◌, arith}
use Rattle.std.specs.List.{filter, list_any, sum_by}
use Rattle.std.specs.Str.{bytes_eq}
use Rattle.std.proofs.Math.IntN.{+ℤ_assoc, +ℤ_idl, +ℤ_comm}
use Rattle.std.proofs.Math.Nat.{add_assoc}
use Rattle.std.proofs.lemmas.Bool.Decides.{Decides-eqb}
use Rattle.std.proofs.lemmas.List.{map-append}
use Rattle.std.proofs.lemmas.List.Elements.{filter-append}
use Rattle.std.proofs.lemmas.List.Sums.{fold-append, sum_by-cons}
use Rattle.std.proofs.Math.Bool.{and-true}
use Rattle.pp_count.specs.Sums.{Seen, sum_where}
use Rattle.pp_samples.specs.declared.tag_table.TagSum.{TagSum}
use Rattle.pp_samples.specs.TagLines.{TagTexts, same_tag, has_label_key, all_tags, key_sum, key_size, tag_sum}
use Rattle.pp_samples.specs.Names.{key_tag}
use Rattle.pp_samples.specs.Tables.{Event, credited_event, no_tag_sum, sum_of, events_with, events_of_key, key_event, sample_events, events_from}
use Rattle.pp_samples.proofs.TagNamesLemmas.{tag_decides}

-- the sum after one more sample, which has this turn
abbrev plus : TagSum → ℤ → ℕ → TagSum
plus s v t = record { sum = s.sum +ℤ v; size = s.size + nat_abs v; last = t }

-- an event of a tag
abbrev event : ℤ → ℕ → TagTexts → Event
event v t tag = record { tag = tag; value = v; turn = t }

credited_not : (s : TagSum) (e : Event) → s.last ≡ e.turn → credited_event s e ≡ s
credited_not s e same = ap (λ (b : Bool). cond b s (plus s e.value e.turn)) ((Decides-eqb s.last e.turn).1 same)

credited_once : (s : TagSum) (e : Event) → s.last < e.turn → credited_event s e ≡ plus s e.value e.turn
credited_once s e below = ap (λ (b : Bool). cond b s (plus s e.value e.turn)) (none (eqb s.last e.turn) refl)
  where
    none : (b : Bool) → eqb s.last e.turn ≡ b → b ≡ false
    none true is = let same : s.last ≡ e.turn = (Decides-eqb s.last e.turn).0 is in absurd (omega (arith, same, below))
    none false is = refl

module _ (q : TagTexts → Bool) (v : ℤ) (t : ℕ) where
  -- a sample that was counted counts no more
  sample_done : (tags : List TagTexts) (s : TagSum) → s.last ≡ t → fold credited_event s (filter (λ e. q e.tag) (map (event v t) tags)) ≡ s
  sample_done [] s same = refl
  sample_done (tag ∷ tags) s same = by (q tag) (sample_done tags s same)
    where
      by : (b : Bool) → fold credited_event s (filter (λ e. q e.tag) (map (event v t) tags)) ≡ s → fold credited_event s (cond b (event v t tag ∷ filter (λ e. q e.tag) (map (event v t) tags)) (filter (λ e. q e.tag) (map (event v t) tags))) ≡ s
      by true rest = ap (λ x. fold credited_event x (filter (λ e. q e.tag) (map (event v t) tags))) (credited_not s (event v t tag) same) ∙ rest
      by false rest = rest

  -- a new sample counts once, where one of its tags passes
  sample_adds : (tags : List TagTexts) (s : TagSum) → s.last < t
      → fold credited_event s (filter (λ e. q e.tag) (map (event v t) tags)) ≡ cond (list_any q tags) (plus s v t) s
  sample_adds [] s below = refl
  sample_adds (tag ∷ tags) s below = by (q tag) (sample_adds tags s below)
    where
      by : (b : Bool) → fold credited_event s (filter (λ e. q e.tag) (map (event v t) tags)) ≡ cond (list_any q tags) (plus s v t) s
          → fold credited_event s (cond b (event v t tag ∷ filter (λ e. q e.tag) (map (event v t) tags)) (filter (λ e. q e.tag) (map (event v t) tags)))
          ≡ cond (b || list_any q tags) (plus s v t) s
      by true rest = ap (λ x. fold credited_event x (filter (λ e. q e.tag) (map (event v t) tags))) (credited_once s (event v t tag) below) ∙ sample_done tags (plus s v t) refl
      by false rest = rest

module _ (q : TagTexts → Bool) where
  abbrev left : List Event → List Event
  left events = filter (λ e. q e.tag) events

  -- what samples come to whose tags pass
  pub record Comes (s : TagSum) (samples : List (Seen TagTexts)) (r : TagSum) : Type 0 where
    pub sum : r.sum ≡ s.sum +ℤ sum_where (list_any q) samples
    pub size : r.size ≡ s.size + sum_by (λ x. nat_abs x.value) (filter (λ x. list_any q x.keys) samples)

  one_more : (s : TagSum) (x : Seen TagTexts) (samples : List (Seen TagTexts)) (t : ℕ) (b : Bool) (r : TagSum) → list_any q x.keys ≡ b
      → Comes (cond b (plus s x.value t) s) samples r → Comes s (x ∷ samples) r
  one_more s x samples t true r is comes = record {
    sum = comes.sum ∙ +ℤ_assoc s.sum x.value _ ∙ ap (λ (b : Bool). s.sum +ℤ (cond b x.value (pos 0) +ℤ sum_where (list_any q) samples)) (sym is);
    size =
        comes.size ∙ add_assoc s.size (nat_abs x.value) _
        ∙ ap (λ (n : ℕ). s.size + n) (sym (sum_by-cons (λ (y : Seen TagTexts). nat_abs y.value) x (filter (λ y. list_any q y.keys) samples)))
        ∙ ap (λ (b : Bool). s.size + sum_by (λ y. nat_abs y.value) (cond b (x ∷ filter (λ y. list_any q y.keys) samples) (filter (λ y. list_any q y.keys) samples))) (sym is);
  }
  one_more s x samples t false r is comes = record {
    sum =
        comes.sum ∙ ap (λ (z : ℤ). s.sum +ℤ z) (sym (+ℤ_idl (sum_where (list_any q) samples)))
        ∙ ap (λ (b : Bool). s.sum +ℤ (cond b x.value (pos 0) +ℤ sum_where (list_any q) samples)) (sym is);
    size =
        comes.size
        ∙ ap (λ (b : Bool). s.size + sum_by (λ y. nat_abs y.value) (cond b (x ∷ filter (λ y. list_any q y.keys) samples) (filter (λ y. list_any q y.keys) samples))) (sym is);
  }

  last_at : (s : TagSum) (v : ℤ) (turn : ℕ) (b : Bool) → s.last ≤ turn → (cond b (plus s v (turn + 1)) s).last ≤ turn + 1
  last_at s v turn true most = omega arith
  last_at s v turn false most = omega (arith, most)

  pub comes_to : (samples : List (Seen TagTexts)) (turn : ℕ) (s : TagSum) → s.last ≤ turn → Comes s samples (fold credited_event s (left (events_from turn samples)))
  comes_to [] turn s most = record { sum = sym (+ℤ_idr s.sum); size = let e : s.size ≡ s.size + 0 = omega arith in e }
    where
      +ℤ_idr : (z : ℤ) → z +ℤ pos 0 ≡ z
      +ℤ_idr z = +ℤ_comm z (pos 0) ∙ +ℤ_idl z
  comes_to (x ∷ samples) turn s most =
      let next = cond (list_any q x.keys) (plus s x.value (turn + 1)) s in
      one_more s x samples (turn + 1) (list_any q x.keys) _ refl
      (rw (
      ap (fold credited_event s) (filter-append (λ e. q e.tag) (sample_events (turn + 1) x) (events_from (turn + 1) samples))
      ∙ fold-append credited_event s (left (sample_events (turn + 1) x)) (left (events_from (turn + 1) samples))
      ∙ ap (λ z. fold credited_event z (left (events_from (turn + 1) samples))) (sample_adds q x.value (turn + 1) x.keys s (omega (arith, most)))
      ) (comes_to samples (turn + 1) next (last_at s x.value turn (list_any q x.keys) most)))

-- tags of a key are among the key's
tag_of_key : (key : List ℕ) (tag : TagTexts) → has_label_key key tag ≡ true → (events : List Event) → events_with tag (events_of_key key events) ≡ events_with tag events
tag_of_key key tag has [] = refl
tag_of_key key tag has (e ∷ events) = by (has_label_key key e.tag) refl (tag_of_key key tag has events)
  where
    other : (b : Bool) → has_label_key key e.tag ≡ false → same_tag tag e.tag ≡ b → b ≡ false
    other true none is = absurd (true≢false (sym has ∙ ap (has_label_key key) ((tag_decides tag e.tag).0 is) ∙ none))
    other false none is = refl

    by : (b : Bool) → has_label_key key e.tag ≡ b → events_with tag (events_of_key key events) ≡ events_with tag events
        → events_with tag (cond b (e ∷ events_of_key key events) (events_of_key key events)) ≡ events_with tag (e ∷ events)
    by true is rest = ap (λ es. cond (same_tag tag e.tag) (e ∷ es) es) rest
    by false is rest = rest ∙ ap (λ (b : Bool). cond b (e ∷ events_with tag events) (events_with tag events)) (sym (other (same_tag tag e.tag) is refl))

pub key_same : (a b : List ℕ) → same_tag (key_tag a) (key_tag b) ≡ bytes_eq a b
key_same a b = and-true (bytes_eq a b)

-- the sum of a key is that of its events
key_events : (key : List ℕ) (events : List Event) (s : TagSum)
    → fold credited_event s (events_with (key_tag key) (map key_event events)) ≡ fold credited_event s (events_of_key key events)
key_events key [] s = refl
key_events key (e ∷ events) s =
    ap (λ (b : Bool). fold credited_event s (cond b (key_event e ∷ events_with (key_tag key) (map key_event events)) (events_with (key_tag key) (map key_event events)))) (key_same key e.tag.key)
    ∙ by (has_label_key key e.tag) (key_events key events)
  where
    by : (b : Bool) → ((t : TagSum) → fold credited_event t (events_with (key_tag key) (map key_event events)) ≡ fold credited_event t (events_of_key key events))
        → fold credited_event s (cond b (key_event e ∷ events_with (key_tag key) (map key_event events)) (events_with (key_tag key) (map key_event events)))
        ≡ fold credited_event s (cond b (e ∷ events_of_key key events) (events_of_key key events))
    by true rest = rest (credited_event s e)
    by false rest = rest s

none_more : (n : ℕ) → 0 + n ≡ n
none_more n = omega arith

module _ (samples : List (Seen TagTexts)) where
  abbrev events : List Event
  events = events_from 0 samples

  pub tag_sums : (key : List ℕ) (tag : TagTexts) → has_label_key key tag ≡ true → (sum_of (events_with tag (events_of_key key events))).sum ≡ tag_sum samples tag
  tag_sums key tag has =
      ap (λ es. (sum_of es).sum) (tag_of_key key tag has events)
      ∙ (comes_to (same_tag tag) samples 0 no_tag_sum (omega arith)).sum ∙ +ℤ_idl (tag_sum samples tag)

  pub key_sums : (key : List ℕ) → (sum_of (events_with (key_tag key) (map key_event events))).sum ≡ key_sum samples key
  key_sums key =
      ap (λ (s : TagSum). s.sum) (key_events key events no_tag_sum)
      ∙ (comes_to (has_label_key key) samples 0 no_tag_sum (omega arith)).sum ∙ +ℤ_idl (key_sum samples key)

  pub key_sizes : (key : List ℕ) → (sum_of (events_with (key_tag key) (map key_event events))).size ≡ key_size samples key
  key_sizes key =
      ap (λ (s : TagSum). s.size) (key_events key events no_tag_sum)
      ∙ (comes_to (has_label_key key) samples 0 no_tag_sum (omega arith)).size ∙ none_more (key_size samples key)

map_tags : (v : ℤ) (t : ℕ) (tags : List TagTexts) → map (λ e. e.tag) (map (event v t) tags) ≡ tags
map_tags v t [] = refl
map_tags v t (tag ∷ tags) = ap (λ ts. tag ∷ ts) (map_tags v t tags)

-- the tags of the events are those of the samples
pub tags_are : (samples : List (Seen TagTexts)) (turn : ℕ) → map (λ e. e.tag) (events_from turn samples) ≡ all_tags samples
tags_are [] turn = refl
tags_are (x ∷ samples) turn =
    map-append (λ e. e.tag) (sample_events (turn + 1) x) (events_from (turn + 1) samples)
    ∙ (λ i. map_tags x.value (turn + 1) x.keys i ++ tags_are samples (turn + 1) i)
