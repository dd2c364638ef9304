-- Sums of events that fit their types.
use Rattle.std.proofs.Common.{◌≡◌, ℕ, ◌+◌, ◌<◌, ◌≤◌, ◌^◌, ◌-◌, Bool, true, false, cond, ◌&&◌, ◌==◌, ℤ, pos, negsuc, ◌+ℤ◌, nat_abs, min, List, [], ◌∷◌, ◌++◌, map, fold, refl, ap, subst, ◌∙◌, arith}
use Rattle.std.specs.List.{filter, list_any, sum_by}
use Rattle.std.specs.Int.{w64, saturate_signed}
use Rattle.std.proofs.lemmas.List.{map-append}
use Rattle.std.proofs.lemmas.List.Elements.{filter-append}
use Rattle.std.proofs.lemmas.List.Sums.{fold-append}
use Rattle.pp_base.proofs.Sums.{triangle}
use Rattle.pp_count.specs.Sums.{Seen}
use Rattle.pp_count.proofs.Sizes.{part_within}
use Rattle.pp_samples.specs.declared.tag_table.TagSum.{TagSum}
use Rattle.pp_samples.specs.TagLines.{TagTexts, same_tag, has_label_key}
use Rattle.pp_samples.specs.Names.{key_tag}
use Rattle.pp_samples.specs.Tables.{Event, credited_event, no_tag_sum, sum_of, events_with, events_of_key, key_event, events_from, AreSmall, Fits}
use Rattle.pp_samples.proofs.TablesLemmas.{with_this}
use Rattle.pp_samples.proofs.EventSums.{comes_to}

-- a number of the type is its own nearest
pub saturated : (z : ℤ) → nat_abs z < 2 ^ 63 → saturate_signed w64 z ≡ z
saturated (pos n) fits = ap pos (let e : min n (2 ^ 63 - 1) ≡ n = omega (arith, fits) in e)
saturated (negsuc n) fits = ap negsuc (let e : min n (2 ^ 63 - 1) ≡ n = omega (arith, fits) in e)

-- the sum after an event, whether it is new
one_step : (s : TagSum) (e : Event) (b : Bool) → nat_abs s.sum ≤ s.size
    → let next : TagSum = cond b s (record { sum = s.sum +ℤ e.value; size = s.size + nat_abs e.value; last = e.turn }) in
    nat_abs next.sum ≤ next.size
one_step s e true within = within
one_step s e false within = omega (arith, within, triangle s.sum e.value)

one_grows : (s : TagSum) (e : Event) (b : Bool)
    → s.size ≤ (cond b s (record { sum = s.sum +ℤ e.value; size = s.size + nat_abs e.value; last = e.turn })).size
one_grows s e true = omega arith
one_grows s e false = omega arith

-- a sum is within the sum of absolute values
sum_within : (events : List Event) (s : TagSum) → nat_abs s.sum ≤ s.size → nat_abs (fold credited_event s events).sum ≤ (fold credited_event s events).size
sum_within [] s within = within
sum_within (e ∷ events) s within = sum_within events (credited_event s e) (one_step s e (s.last == e.turn) within)

-- which only grows
size_grows : (events : List Event) (s : TagSum) → s.size ≤ (fold credited_event s events).size
size_grows [] s = omega arith
size_grows (e ∷ events) s = omega (arith, one_grows s e (s.last == e.turn), size_grows events (credited_event s e))

-- the event can be added to the sum of its tag
pub fits_of : (events : List Event) (e : Event) → AreSmall (events ++ e ∷ []) → Fits (sum_of (events_with e.tag events)) e
fits_of events e small = record {
  within = sum_within (events_with e.tag events) no_tag_sum (omega arith);
  small =
      subst (λ (s : TagSum). s.size < 2 ^ 63)
      (ap sum_of (with_this events e) ∙ fold-append credited_event no_tag_sum (events_with e.tag events) (e ∷ []))
      (small (same_tag e.tag));
}

-- the first of events that fit
pub small_before : (events more : List Event) → AreSmall (events ++ more) → AreSmall events
small_before events more small q =
    let first : List Event = filter (λ e. q e.tag) events in
    let rest : List Event = filter (λ e. q e.tag) more in
    omega (
      arith,
      small q,
      ap (λ (s : TagSum). s.size) (ap sum_of (filter-append (λ e. q e.tag) events more) ∙ fold-append credited_event no_tag_sum first rest),
      size_grows rest (sum_of first),
    )

-- the events of keys that fit
keys_sum : (q : TagTexts → Bool) (events : List Event) (s : TagSum)
    → fold credited_event s (filter (λ e. q (key_tag e.tag.key)) events) ≡ fold credited_event s (filter (λ e. q e.tag) (map key_event events))
keys_sum q [] s = refl
keys_sum q (e ∷ events) s = by (q (key_tag e.tag.key)) (keys_sum q events)
  where
    by : (b : Bool) → ((t : TagSum) → fold credited_event t (filter (λ x. q (key_tag x.tag.key)) events) ≡ fold credited_event t (filter (λ x. q x.tag) (map key_event events)))
        → fold credited_event s (cond b (e ∷ filter (λ x. q (key_tag x.tag.key)) events) (filter (λ x. q (key_tag x.tag.key)) events))
        ≡ fold credited_event s (cond b (key_event e ∷ filter (λ x. q x.tag) (map key_event events)) (filter (λ x. q x.tag) (map key_event events)))
    by true rest = rest (credited_event s e)
    by false rest = rest s

pub small_keys : (events : List Event) (e : Event) → AreSmall (events ++ e ∷ []) → AreSmall (map key_event events ++ key_event e ∷ [])
small_keys events e small q =
    subst (λ (s : TagSum). s.size < 2 ^ 63)
    (keys_sum q (events ++ e ∷ []) no_tag_sum ∙ ap (λ es. sum_of (filter (λ x. q x.tag) es)) (map-append key_event events (e ∷ [])))
    (small (λ t. q (key_tag t.key)))

-- the events of one key that fit
twice : (p q : TagTexts → Bool) (events : List Event)
    → filter (λ e. p e.tag && q e.tag) events ≡ filter (λ e. q e.tag) (filter (λ e. p e.tag) events)
twice p q [] = refl
twice p q (e ∷ events) = by (p e.tag) (twice p q events)
  where
    by : (b : Bool) → filter (λ x. p x.tag && q x.tag) events ≡ filter (λ x. q x.tag) (filter (λ x. p x.tag) events)
        → cond (b && q e.tag) (e ∷ filter (λ x. p x.tag && q x.tag) events) (filter (λ x. p x.tag && q x.tag) events)
        ≡ filter (λ x. q x.tag) (cond b (e ∷ filter (λ x. p x.tag) events) (filter (λ x. p x.tag) events))
    by true rest = ap (λ es. cond (q e.tag) (e ∷ es) es) rest
    by false rest = rest

pub small_key : (key : List ℕ) (events : List Event) → AreSmall events → AreSmall (events_of_key key events)
small_key key events small q =
    subst (λ (es : List Event). (sum_of es).size < 2 ^ 63) (twice (has_label_key key) q events) (small (λ t. has_label_key key t && q t))

-- the events of samples whose values can be added up
pub small_samples : (samples : List (Seen TagTexts)) → sum_by (λ s. nat_abs s.value) samples < 2 ^ 63 → AreSmall (events_from 0 samples)
small_samples samples fits q =
    omega (
      arith,
      fits,
      (comes_to q samples 0 no_tag_sum (omega arith)).size,
      part_within (λ (s : Seen TagTexts). nat_abs s.value) (λ s. list_any q s.keys) samples,
    )
