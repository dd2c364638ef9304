-- Events of labels and of samples, one after the other.
use Rattle.std.proofs.Common.{◌≡◌, ℕ, ◌+◌, ◌<◌, true, ℤ, Option, Some, None, List, [], ◌∷◌, ◌++◌, map, length, take, get_or, replicate, inl, inr, refl, sym, ap, subst, ◌∙◌, append_assoc, arith}
use Rattle.std.proofs.lemmas.List.{map-append, take_more, length-map, length-replicate, get_or-replicate, get_or-set_same, get_or-set_other, get_or_past, set_past}
use Rattle.std.specs.Option.{unwrap_or}
use Rattle.std.proofs.lemmas.Option.{none-some}
use Rattle.std.proofs.lemmas.Bool.{and_parts, cases_lt, cases_eq}
use Rattle.std.proofs.lemmas.Bool.Decides.{Decides-int_eq}
use Rattle.pp_model.specs.declared.profile.Label.{Label}
use Rattle.pp_model.specs.declared.profile.Profile.{Profile}
use Rattle.pp_count.specs.Sums.{Seen}
use Rattle.pp_samples.specs.declared.key_table.TagKeyTable.{TagKeyTable}
use Rattle.pp_samples.specs.declared.key_table.TagPlace.{TagPlace}
use Rattle.pp_samples.specs.TagLines.{TagTexts, tag_texts}
use Rattle.pp_samples.specs.declared.recent.PlacedLabel.{PlacedLabel}
use Rattle.pp_samples.specs.Places.{HasTagPlace, KeepsTagPlaces}
use Rattle.pp_samples.specs.Recent.{AreBlank, Holds, Noted, written, passed}
use Rattle.pp_samples.specs.Labels.{same_label_parts}
use Rattle.pp_samples.specs.Tables.{Event, label_event, sample_events, events_from}

-- one label more
pub labels_more : (p : Profile) (value : ℤ) (turn : ℕ) (labels : List Label) (events : List Event) (i : ℕ) (d : Label) → i < length labels
    → events ++ map (label_event p value turn) (take (i + 1) labels)
    ≡ (events ++ map (label_event p value turn) (take i labels)) ++ label_event p value turn (get_or labels i d) ∷ []
labels_more p value turn labels events i d here =
    ap (λ ls. events ++ map (label_event p value turn) ls) (take_more labels i d here)
    ∙ ap (λ es. events ++ es) (map-append (label_event p value turn) (take i labels) (get_or labels i d ∷ []))
    ∙ sym (append_assoc events (map (label_event p value turn) (take i labels)) (label_event p value turn (get_or labels i d) ∷ []))

-- the events of a sample are those of its labels
pub labels_are : (p : Profile) (value : ℤ) (turn : ℕ) (labels : List Label)
    → map (label_event p value turn) labels ≡ sample_events turn (record { value = value; keys = map (tag_texts p) labels })
labels_are p value turn [] = refl
labels_are p value turn (label ∷ labels) = ap (λ es. label_event p value turn label ∷ es) (labels_are p value turn labels)

-- the events of more samples
pub events_more : (turn : ℕ) (samples more : List (Seen TagTexts)) → events_from turn (samples ++ more) ≡ events_from turn samples ++ events_from (turn + length samples) more
events_more turn [] more = ap (λ (n : ℕ). events_from n more) (let e : turn ≡ turn + 0 = omega arith in e)
events_more turn (s ∷ samples) more =
    ap (λ es. sample_events (turn + 1) s ++ es)
    (events_more (turn + 1) samples more
    ∙ ap (λ (n : ℕ). events_from (turn + 1) samples ++ events_from n more) (let e : (turn + 1) + length samples ≡ turn + length (s ∷ samples) = omega arith in e))
    ∙ sym (append_assoc (sample_events (turn + 1) s) (events_from (turn + 1) samples) (events_from (turn + length (s ∷ samples)) more))

-- one sample more
pub samples_counted : {A : Type 0} (tagged : A → Seen TagTexts) (before more all : List A) (turn : ℕ) → all ≡ before ++ more → turn ≡ length before
    → events_from 0 (map tagged all) ≡ events_from 0 (map tagged before) ++ events_from turn (map tagged more)
samples_counted tagged before more all turn is at =
    ap (λ xs. events_from 0 (map tagged xs)) is ∙ ap (events_from 0) (map-append tagged before more) ∙ events_more 0 (map tagged before) (map tagged more)
    ∙ ap (λ (n : ℕ). events_from 0 (map tagged before) ++ events_from n (map tagged more)) (let e : 0 + length (map tagged before) ≡ turn = omega (arith, at, length-map before tagged) in e)

-- labels of the same parts are one
pub known_label : (a b : Label) → same_label_parts a b ≡ true → a ≡ b
known_label a b same =
    let text = and_parts _ _ (and_parts _ _ same).1 in
    let num = and_parts _ _ text.1 in
    λ i. record {
      key = (Decides-int_eq a.key b.key).0 (and_parts _ _ same).0 i;
      text = (Decides-int_eq a.text b.text).0 text.0 i;
      num = (Decides-int_eq a.num b.num).0 num.0 i;
      num_unit = (Decides-int_eq a.num_unit b.num_unit).0 num.1 i;
    }

-- one place more is known
pub known_more : (p : Profile) (old new : TagKeyTable) (before after : List (Option PlacedLabel)) (label : Label) (place : TagPlace)
    → ((l : Label) (w : TagPlace) → Holds before l w → HasTagPlace old (tag_texts p l) w) → KeepsTagPlaces old new → HasTagPlace new (tag_texts p label) place
    → Noted before label place after → (q : Label) (w : TagPlace) → Holds after q w → HasTagPlace new (tag_texts p q) w
known_more p old new before after label place known keeps own (passed same) q w held =
    keeps (tag_texts p q) w (known q w (subst (λ (slots : List (Option PlacedLabel)). Holds slots q w) same held))
known_more p old new before after label place known keeps own (written slot is) q w held = elim (cases_eq held.slot slot) [
  | inl here ↦ elim (cases_lt slot (length before)) [
    | inl inside ↦
        let this : Some (record { label = label; place = place }) ≡ Some (record { label = q; place = w }) =
        sym (get_or-set_same before slot (Some (record { label = label; place = place })) None inside)
        ∙ (λ i. get_or (sym is i) (sym here i) None) ∙ held.is in
        subst (λ (at : PlacedLabel). HasTagPlace new (tag_texts p at.label) at.place)
        (ap (λ (o : Option PlacedLabel). unwrap_or o (record { label = label; place = place })) this) own
    | inr past ↦
        keeps (tag_texts p q) w (known q w (record {
          slot = held.slot;
          is = (λ i. get_or (sym (set_past before slot (Some (record { label = label; place = place })) past) i) held.slot None) ∙ (λ i. get_or (sym is i) held.slot None) ∙ held.is;
        }))
  ]
  | inr other ↦
      keeps (tag_texts p q) w (known q w (record {
        slot = held.slot;
        is = sym (get_or-set_other before slot held.slot (Some (record { label = label; place = place })) None other) ∙ (λ i. get_or (sym is i) held.slot None) ∙ held.is;
      }))
]

-- nothing is remembered yet
pub none_known : (label : Label) (place : TagPlace) (slots : List (Option PlacedLabel)) → AreBlank slots → Holds slots label place → ⊥
none_known label place slots blank held = elim (cases_lt held.slot blank.count) [
  | inl here ↦ none-some _ (sym (get_or-replicate blank.count held.slot None None here) ∙ (λ i. get_or (sym blank.is i) held.slot None) ∙ held.is)
  | inr past ↦ none-some _ (sym (get_or_past (replicate blank.count None) held.slot None (omega (arith, past, length-replicate {A = Option PlacedLabel} blank.count None))) ∙ (λ i. get_or (sym blank.is i) held.slot None) ∙ held.is)
]
