-- The places of tags in tables that grow.
use Rattle.std.proofs.Common.{◌≡◌, ℕ, ◌+◌, ◌<◌, ◌≤◌, List, [], ◌∷◌, ◌++◌, length, get_or, set, sym, ap, subst, ◌∙◌, inl, inr, arith}
use Rattle.std.proofs.lemmas.Bool.{cases_lt, cases_eq}
use Rattle.std.proofs.lemmas.List.{length-append, get_or-set_other, get_or-set_same, get_or_append_left, get_or_past}
use Rattle.std.proofs.Math.Seq.{get_or-append_seam}
use Rattle.pp_model.specs.FirstSight.{seen_with, place_of}
use Rattle.pp_samples.specs.declared.tag_table.TagSum.{TagSum}
use Rattle.pp_samples.specs.declared.tag_table.TagTable.{TagTable}
use Rattle.pp_samples.specs.declared.key_table.TagKeyTable.{TagKeyTable}
use Rattle.pp_samples.specs.declared.key_table.TagPlace.{TagPlace}
use Rattle.pp_samples.specs.TagLines.{TagTexts, same_tag}
use Rattle.pp_samples.specs.Names.{key_tag}
use Rattle.pp_samples.specs.Tables.{Event, no_tag_sum, sum_of, events_with, IsTable, Padded, had, grew, Roomed, has, made}
use Rattle.pp_samples.specs.Places.{AreEven, HasTagPlace}
use Rattle.pp_samples.proofs.Slots.{place_within, seen_old, seen_new, own_place, old_place}

-- The names keep the places of the tags among them.
pub record Keeps (names new : List TagTexts) : Type 0 where
  pub same : (t : TagTexts) → place_of same_tag names t < length names → place_of same_tag new t ≡ place_of same_tag names t
  pub count : length names ≤ length new

pub keeps_same : (names new : List TagTexts) → new ≡ names → Keeps names new
keeps_same names new is = record {
  same = λ t here. ap (λ ns. place_of same_tag ns t) is;
  count = omega (arith, ap length is);
}

pub keeps_seen : (names new : List TagTexts) (x : TagTexts) → new ≡ seen_with same_tag names x → Keeps names new
keeps_seen names new x is = elim (cases_lt (place_of same_tag names x) (length names)) [
  | inl here ↦ keeps_same names new (is ∙ seen_old names x here)
  | inr past ↦
      let at : place_of same_tag names x ≡ length names = omega (arith, past, place_within names x) in
      let grown : new ≡ names ++ x ∷ [] = is ∙ seen_new names x at in
      record {
        same = λ t here. ap (λ ns. place_of same_tag ns t) grown ∙ old_place names x t here;
        count = omega (arith, ap length grown, length-append names (x ∷ []));
      }
]

-- The tag has its place among the names once it is seen.
pub record IsSeenAt (names new : List TagTexts) (x : TagTexts) : Type 0 where
  pub same : place_of same_tag new x ≡ place_of same_tag names x
  pub within : place_of same_tag names x < length new

pub seen_at : (names new : List TagTexts) (x : TagTexts) → new ≡ seen_with same_tag names x → IsSeenAt names new x
seen_at names new x is = elim (cases_lt (place_of same_tag names x) (length names)) [
  | inl here ↦
      let kept : new ≡ names = is ∙ seen_old names x here in
      record { same = ap (λ ns. place_of same_tag ns x) kept; within = omega (arith, here, ap length kept) }
  | inr past ↦
      let at : place_of same_tag names x ≡ length names = omega (arith, past, place_within names x) in
      let grown : new ≡ names ++ x ∷ [] = is ∙ seen_new names x at in
      record {
        same = ap (λ ns. place_of same_tag ns x) grown ∙ own_place names x at;
        within = omega (arith, at, ap length grown, length-append names (x ∷ []));
      }
]

-- What stands beside names, and has room for one more, has as many items as the names once it is seen.
pub record HasRoom (names new : List TagTexts) (n after : ℕ) : Type 0 where
  pub count : after ≡ length new
  pub within : n < after

room_in : (names new : List TagTexts) (x : TagTexts) (n after : ℕ) → new ≡ seen_with same_tag names x → n ≡ place_of same_tag names x
    → n < length names → after ≡ length names → HasRoom names new n after
room_in names new x n after is at here same =
    let kept : new ≡ names = is ∙ seen_old names x (omega (arith, here, at)) in
    record { count = omega (arith, same, ap length kept); within = omega (arith, here, same) }

room_past : (names new : List TagTexts) (x : TagTexts) (n after : ℕ) → new ≡ seen_with same_tag names x → n ≡ place_of same_tag names x
    → length names ≤ n → after ≡ length names + 1 → HasRoom names new n after
room_past names new x n after is at past more =
    let end : place_of same_tag names x ≡ length names = omega (arith, past, at, place_within names x) in
    let grown : new ≡ names ++ x ∷ [] = is ∙ seen_new names x end in
    record { count = omega (arith, more, ap length grown, length-append names (x ∷ [])); within = omega (arith, more, end, at) }

pub padded_room : (names new : List TagTexts) (x : TagTexts) (sums padded : List TagSum) (n : ℕ) → length sums ≡ length names
    → new ≡ seen_with same_tag names x → n ≡ place_of same_tag names x → Padded sums padded n → HasRoom names new n (length padded)
padded_room names new x sums padded n count is at (had within same) =
    room_in names new x n (length padded) is at (omega (arith, within, count)) (omega (arith, ap length same, count))
padded_room names new x sums padded n count is at (grew past same) =
    room_past names new x n (length padded) is at (omega (arith, past, count)) (omega (arith, ap length same, count, length-append sums (no_tag_sum ∷ [])))

pub roomed_room : (names new : List TagTexts) (x : TagTexts) (tables roomed : List TagTable) (n : ℕ) → length tables ≡ length names
    → new ≡ seen_with same_tag names x → n ≡ place_of same_tag names x → Roomed tables roomed n → HasRoom names new n (length roomed)
roomed_room names new x tables roomed n count is at (has within same) =
    room_in names new x n (length roomed) is at (omega (arith, within, count)) (omega (arith, ap length same, count))
roomed_room names new x tables roomed n count is at (made empty of_none past same) =
    room_past names new x n (length roomed) is at (omega (arith, past, count)) (omega (arith, ap length same, count, length-append tables (empty ∷ [])))

-- what stood there stands there still
pub roomed_at : (tables roomed : List TagTable) (n : ℕ) → Roomed tables roomed n → (j : ℕ) (d : TagTable) → j < length tables
    → get_or roomed j d ≡ get_or tables j d
roomed_at tables roomed n (has within same) j d here = ap (λ ts. get_or ts j d) same
roomed_at tables roomed n (made empty of_none past same) j d here = ap (λ ts. get_or ts j d) same ∙ get_or_append_left tables (empty ∷ []) d j here

-- the sum of a tag, in the room that was made for it
pub padded_sum : (events : List Event) (x : TagTexts) (names : List TagTexts) (sums padded : List TagSum) (n : ℕ) → IsTable events names sums
    → n ≡ place_of same_tag names x → Padded sums padded n → get_or padded n no_tag_sum ≡ sum_of (events_with x events)
padded_sum events x names sums padded n is at (had within same) =
    (λ i. get_or (same i) (at i) no_tag_sum) ∙ is.added x
padded_sum events x names sums padded n is at (grew past same) =
    let end : n ≡ length sums = omega (arith, past, at, is.count, place_within names x) in
    ap (λ ss. get_or ss n no_tag_sum) same
    ∙ ap (λ (k : ℕ). get_or (sums ++ no_tag_sum ∷ []) k no_tag_sum) end
    ∙ get_or-append_seam sums no_tag_sum [] no_tag_sum ∙ sym (get_or_past sums n no_tag_sum past)
    ∙ ap (λ (k : ℕ). get_or sums k no_tag_sum) at ∙ is.added x

-- Places in tables of keys of which one was made anew.
module _ (old new : TagKeyTable) (roomed : List TagTable) (k : ℕ) (table : TagTable) (even : AreEven old)
    (names : Keeps old.keys.names new.keys.names)
    (room : (j : ℕ) (d : TagTable) → j < length old.tags.items → get_or roomed j d ≡ get_or old.tags.items j d)
    (inside : k < length roomed) (is : new.tags.items ≡ set roomed k table)
    (own : (d : TagTable) → Keeps (get_or roomed k d).names table.names) where
  kept_names : (j : ℕ) (d : TagTable) → j < length old.tags.items → Keeps (get_or old.tags.items j d).names (get_or new.tags.items j d).names
  kept_names j d here = elim (cases_eq j k) [
    | inl same ↦
        let made_anew : get_or new.tags.items j d ≡ table =
        (λ i. get_or (is i) (same i) d) ∙ get_or-set_same roomed k table d inside in
        let before : get_or roomed k d ≡ get_or old.tags.items j d = ap (λ (n : ℕ). get_or roomed n d) (sym same) ∙ room j d here in
        subst (λ (t : TagTable). Keeps (get_or old.tags.items j d).names t.names) (sym made_anew)
        (subst (λ (t : TagTable). Keeps t.names table.names) before (own d))
    | inr other ↦
        keeps_same (get_or old.tags.items j d).names (get_or new.tags.items j d).names
        (ap (λ (t : TagTable). t.names)
        (ap (λ ts. get_or ts j d) is ∙ get_or-set_other roomed k j table d other ∙ room j d here))
  ]

  pub kept_place : (tag : TagTexts) (place : TagPlace) → HasTagPlace old tag place → HasTagPlace new tag place
  kept_place tag place at =
      let here : place.key < length old.tags.items = omega (arith, at.inside.key, even.count) in
      let key : place_of same_tag new.keys.names (key_tag tag.key) ≡ place_of same_tag old.keys.names (key_tag tag.key) =
      names.same (key_tag tag.key) (omega (arith, at.inside.key, at.key)) in
      record {
        inside = record {
          key = omega (arith, at.inside.key, names.count);
          tag = λ d. omega (arith, at.inside.tag d, (kept_names place.key d here).count);
        };
        key = at.key ∙ sym key;
        own = λ d. at.own d ∙ sym ((kept_names place.key d here).same tag (omega (arith, at.inside.tag d, at.own d)));
      }

-- the place of a tag that was just seen
pub own_is : (old new : TagKeyTable) (roomed : List TagTable) (k t : ℕ) (table : TagTable) (tag : TagTexts) (place : TagPlace) → place.key ≡ k → place.tag ≡ t
    → k ≡ place_of same_tag old.keys.names (key_tag tag.key) → new.keys.names ≡ seen_with same_tag old.keys.names (key_tag tag.key)
    → k < length roomed → new.tags.items ≡ set roomed k table → ((d : TagTable) → t ≡ place_of same_tag (get_or roomed k d).names tag)
    → ((d : TagTable) → table.names ≡ seen_with same_tag (get_or roomed k d).names tag) → HasTagPlace new tag place
own_is old new roomed k t table tag place is_key is_tag at names inside is number renamed =
    let key : IsSeenAt old.keys.names new.keys.names (key_tag tag.key) = seen_at old.keys.names new.keys.names (key_tag tag.key) names in
    let there : (d : TagTable) → get_or new.tags.items place.key d ≡ table =
    λ d. (λ i. get_or (is i) (is_key i) d) ∙ get_or-set_same roomed k table d inside in
    let own : (d : TagTable) → IsSeenAt (get_or roomed k d).names table.names tag = λ d. seen_at (get_or roomed k d).names table.names tag (renamed d) in
    record {
      inside = record {
        key = omega (arith, key.within, is_key, at);
        tag = λ d. omega (arith, is_tag, number d, (own d).within, ap (λ (w : TagTable). length w.names) (there d));
      };
      key = is_key ∙ at ∙ sym key.same;
      own = λ d. is_tag ∙ number d ∙ sym (own d).same ∙ ap (λ (w : TagTable). place_of same_tag w.names tag) (sym (there d));
    }
