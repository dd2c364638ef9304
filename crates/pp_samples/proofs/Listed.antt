-- The keys and the tags that the tags report lists are the lines of the tables in their order.
use Rattle.std.proofs.Common.{◌≡◌, ℕ, ◌<◌, Bool, true, false, true≢false, cond, ◌||◌, nat_abs, List, [], ◌∷◌, ◌++◌, map, length, get_or, All, refl, sym, ap, subst, ◌∙◌, arith}
use Rattle.std.specs.List.{filter, list_any, flat_map, AllByRecursion, IsDistinct}
use Rattle.std.specs.List.Sorted.{IsSortedBy, IsPermutation}
use Rattle.std.specs.Bool.{Decides}
use Rattle.std.specs.Str.{bytes_eq}
use Rattle.std.specs.Ordering.{nat_cmp, ordering_then, is_lt}
use Rattle.std.specs.Cmp.{IsTotalOrder, IsEquivalence}
use Rattle.std.specs.FinMap as finite
use Rattle.std.proofs.lemmas.Cmp.{on_total, then_total, back_total, nat_list_cmp_total, nat_cmp_total}
use Rattle.std.proofs.lemmas.Slice.Eq.{bytes_eq-Decides}
use Rattle.std.proofs.lemmas.List.Elements.{All-nil, All-cons, All-head, All-tail}
use Rattle.std.proofs.lemmas.List.Folds.{list_any-append}
use Rattle.std.proofs.lemmas.List.Sorted.{IsPermutation-map, list_any-IsPermutation, All-permutation}
use Rattle.std.proofs.lemmas.Map.Keys.{IsDistinct-IsPermutation}
use Rattle.std.proofs.lemmas.Simd.{map-map}
use Rattle.pp_base.proofs.Booleans.{same_bool}
use Rattle.pp_base.proofs.Orders.{both_equal}
use Rattle.pp_base.proofs.Lists.{all_of_map}
use Rattle.pp_units.specs.Shown.{Shown}
use Rattle.pp_stack.proofs.ToldLemmas.{filter-map}
use Rattle.pp_model.specs.FirstSight.{seen_with, seen_after, distinct, place_of}
use Rattle.pp_model.proofs.FirstSightLemmas.{distinct_apart, distinct-map, all-seen_after}
use Rattle.pp_count.specs.Sums.{Seen}
use Rattle.pp_count.proofs.EachOnce.{each_once_is}
use Rattle.pp_samples.specs.declared.key_table.TagKeyTable.{TagKeyTable}
use Rattle.pp_samples.specs.declared.tag_lines.TagLine.{TagLine}
use Rattle.pp_samples.specs.TagLines.{TagTexts, bytes_cmp, same_tag, has_label_key, all_tags, all_keys, key_sum, key_size, tag_sum, line_cmp, key_tags, value_line}
use Rattle.pp_samples.specs.Names.{name_texts, key_tag}
use Rattle.pp_samples.specs.Tables.{Event, AreKeys, key_event, events_of_key, events_from}
use Rattle.pp_samples.specs.Ranked.{RankedTag, line_entry, line_key, event_entry, table_tags, entry_cmp, line_key_cmp, entry_line, IsKeyLine}
use Rattle.pp_samples.proofs.TagNamesLemmas.{tag_decides}
use Rattle.pp_samples.proofs.EventSums.{tag_sums, key_sums, key_sizes, key_same, tags_are}
use Rattle.pp_samples.proofs.Ranking.{tag_cmp_total, tag_cmp_ties, bytes_cmp_ties, tag_symm, tags_apart, place_at, at_all, values_decide, sorted_as}

-- what is among items is among them once each is left
module _ {K : Type 0} (same : K → K → Bool) (decides : (x y : K) → Decides (same x y) (x ≡ y)) (x : K) where
  or_true : (a b : Bool) → a ≡ true → a ≡ (a || b)
  or_true true b is = refl
  or_true false b is = absurd (true≢false (sym is))

  or_false : (a : Bool) → a ≡ (a || false)
  or_false true = refl
  or_false false = refl

  or_assoc : (a b c : Bool) → ((a || b) || c) ≡ (a || (b || c))
  or_assoc true b c = refl
  or_assoc false b c = refl

  any_with : (seen : List K) (y : K) → list_any (same x) (seen_with same seen y) ≡ (list_any (same x) seen || list_any (same x) (y ∷ []))
  any_with seen y = by (list_any (same y) seen) refl
    where
      found : (b : Bool) → list_any (same y) seen ≡ true → same x y ≡ b → list_any (same x) seen ≡ (list_any (same x) seen || (b || false))
      found true has is = or_true (list_any (same x) seen) true (ap (λ (k : K). list_any (same k) seen) ((decides x y).0 is) ∙ has)
      found false has is = or_false (list_any (same x) seen)

      by : (b : Bool) → list_any (same y) seen ≡ b → list_any (same x) (cond b seen (seen ++ y ∷ [])) ≡ (list_any (same x) seen || list_any (same x) (y ∷ []))
      by true has = found (same x y) has refl
      by false has = list_any-append (same x) seen (y ∷ [])

  any_after : (seen xs : List K) → list_any (same x) (seen_after same seen xs) ≡ (list_any (same x) seen || list_any (same x) xs)
  any_after seen [] = or_false (list_any (same x) seen)
  any_after seen (y ∷ ys) =
      any_after (seen_with same seen y) ys ∙ ap (λ (b : Bool). b || list_any (same x) ys) (any_with seen y)
      ∙ or_assoc (list_any (same x) seen) (list_any (same x) (y ∷ [])) (list_any (same x) ys)
      ∙ ap (λ (b : Bool). list_any (same x) seen || b) (or_assoc (same x y) false (list_any (same x) ys))

  pub any_distinct : (xs : List K) → list_any (same x) (distinct same xs) ≡ list_any (same x) xs
  any_distinct xs = any_after [] xs

all_mapped : {A B : Type 0} (P : B → Type 0) (f : A → B) (xs : List A) → All (λ x. P (f x)) xs → All P (map f xs)
all_mapped P f [] all = All-nil P
all_mapped P f (x ∷ xs) all = All-cons P (f x) (map f xs) (All-head (λ y. P (f y)) x xs all) (all_mapped P f xs (All-tail (λ y. P (f y)) x xs all))

-- the lines of a table in another order
module _ (P : RankedTag → Type 0) (before lines : List TagLine) (entries : List RankedTag) (are : map line_entry before ≡ entries) (moved : IsPermutation before lines) where
  pub all_lines : All P entries → All (λ line. P (line_entry line)) lines
  all_lines all =
      all_of_map P line_entry lines
      (All-permutation P (map line_entry before) (map line_entry lines) (IsPermutation-map line_entry before lines moved) (subst (All P) (sym are) all))

-- the tag of a line
abbrev pub line_tag : TagLine → TagTexts
line_tag line = name_texts line.name.now

map_same : {A : Type 0} (xs : List A) → map (λ x. x) xs ≡ xs
map_same [] = refl
map_same (x ∷ xs) = ap (λ ys. x ∷ ys) (map_same xs)

module _ (samples : List (Seen TagTexts)) where
  abbrev events : List Event
  events = events_from 0 samples

  line_total : IsTotalOrder (line_cmp samples)
  line_total = then_total (back_total (on_total (λ t. nat_abs (tag_sum samples t)) nat_cmp_total)) tag_cmp_total

  line_ties : finite.IsAntisymmetric (line_cmp samples)
  line_ties a b tie = tag_cmp_ties a b (both_equal _ _ tie).1

  -- The entry has the sum of its tag.
  abbrev pub HasTagSum : RankedTag → Type 0
  HasTagSum e = e.sum.sum ≡ tag_sum samples e.tag

  module _ (key : List ℕ) where
    abbrev own : List Event
    own = events_of_key key events

    -- the tags of the key
    own_tags : map (λ e. e.tag) own ≡ filter (has_label_key key) (all_tags samples)
    own_tags = sym (filter-map (λ e. e.tag) (has_label_key key) events) ∙ ap (filter (has_label_key key)) (tags_are samples 0)

    keyed : (tags : List TagTexts) → AllByRecursion (λ t. has_label_key key t ≡ true) (filter (has_label_key key) tags)
    keyed [] = tt
    keyed (t ∷ tags) = by (has_label_key key t) refl (keyed tags)
      where
        by : (b : Bool) → has_label_key key t ≡ b → AllByRecursion (λ t. has_label_key key t ≡ true) (filter (has_label_key key) tags)
            → AllByRecursion (λ t. has_label_key key t ≡ true) (cond b (t ∷ filter (has_label_key key) tags) (filter (has_label_key key) tags))
        by true is rest = (is, rest)
        by false is rest = rest

    table_keyed : AllByRecursion (λ t. has_label_key key t ≡ true) (table_tags own)
    table_keyed =
        all-seen_after same_tag same_tag (λ x. x) (λ t. has_label_key key t ≡ true) (λ a b p q. refl) [] (map (λ e. e.tag) own) tt
        (subst (AllByRecursion (λ t. has_label_key key t ≡ true)) (sym own_tags) (keyed (all_tags samples)))

    entries_sums : All HasTagSum (map (event_entry own) (table_tags own))
    entries_sums =
        all_mapped HasTagSum (event_entry own) (table_tags own)
        (λ k d h. tag_sums samples key (get_or (table_tags own) k d) (at_all (λ t. has_label_key key t ≡ true) (table_tags own) k d table_keyed h))

    -- The entry's tag is one of the key's.
    abbrev HasKey : RankedTag → Type 0
    HasKey e = has_label_key key e.tag ≡ true

    entries_keyed : All HasKey (map (event_entry own) (table_tags own))
    entries_keyed = all_mapped HasKey (event_entry own) (table_tags own) (λ k d h. at_all (λ t. has_label_key key t ≡ true) (table_tags own) k d table_keyed h)

    module _ (before lines : List TagLine) (are : map line_entry before ≡ map (event_entry own) (table_tags own)) (moved : IsPermutation before lines)
        (sorted : IsSortedBy (λ a b. is_lt (entry_cmp (line_entry a) (line_entry b))) lines) where
      pub lines_sums : All (λ line. HasTagSum (line_entry line)) lines
      lines_sums = all_lines HasTagSum before lines _ are moved entries_sums

      lines_keyed : All (λ line. HasKey (line_entry line)) lines
      lines_keyed = all_lines HasKey before lines _ are moved entries_keyed

      before_tags : map line_tag before ≡ table_tags own
      before_tags = sym (map-map (λ e. e.tag) line_entry before) ∙ ap (map (λ e. e.tag)) are ∙ map-map (λ e. e.tag) (event_entry own) (table_tags own) ∙ map_same (table_tags own)

      moved_tags : IsPermutation (map line_tag before) (map line_tag lines)
      moved_tags = IsPermutation-map line_tag before lines moved

      pub tags_listed : key_tags samples key ≡ map line_tag lines
      tags_listed =
          each_once_is line_total line_ties same_tag tag_decides (filter (has_label_key key) (all_tags samples)) (map line_tag lines)
          (sorted_as line_tag (λ line. HasTagSum (line_entry line) × HasKey (line_entry line)) (line_cmp samples) (λ a b. entry_cmp (line_entry a) (line_entry b))
          (λ a b x y. λ i. ordering_then (nat_cmp (nat_abs (sym y.0 i)) (nat_abs (sym x.0 i))) (values_decide key (line_tag a) (line_tag b) x.1 y.1 i)) lines
          (λ k d h. (lines_sums k d h, lines_keyed k d h)) sorted)
          (IsDistinct-IsPermutation same_tag tag_symm (map line_tag before) (map line_tag lines) moved_tags (subst (IsDistinct same_tag) (sym before_tags) (tags_apart own)))
          (λ t. ap (list_any (same_tag t)) (sym own_tags) ∙ sym (any_distinct same_tag tag_decides t (map (λ e. e.tag) own)) ∙ ap (list_any (same_tag t)) (sym before_tags)
          ∙ list_any-IsPermutation (same_tag t) (map line_tag before) (map line_tag lines) moved_tags)

      -- the lines of the key's tags
      pub lines_are : (unit : Shown) → flat_map (λ tag. value_line unit (key_size samples key) (tag_sum samples tag) tag) (key_tags samples key)
          ≡ flat_map (λ line. entry_line unit (key_size samples key) (line_entry line)) lines
      lines_are unit = ap (flat_map (λ tag. value_line unit (key_size samples key) (tag_sum samples tag) tag)) tags_listed ∙ each lines lines_sums
        where
          each : (ls : List TagLine) → All (λ line. HasTagSum (line_entry line)) ls → flat_map (λ tag. value_line unit (key_size samples key) (tag_sum samples tag) tag) (map line_tag ls)
              ≡ flat_map (λ line. entry_line unit (key_size samples key) (line_entry line)) ls
          each [] all = refl
          each (l ∷ ls) all =
              (λ i. value_line unit (key_size samples key) (sym (All-head (λ line. HasTagSum (line_entry line)) l ls all) i) (line_tag l)
              ++ each ls (All-tail (λ line. HasTagSum (line_entry line)) l ls all) i)

  -- keys as the table has them
  abbrev key_events : List Event
  key_events = map key_event events

  abbrev event_keys : List (List ℕ)
  event_keys = map (λ e. e.tag.key) events

  abbrev own_keys : List (List ℕ)
  own_keys = distinct bytes_eq event_keys

  bytes_symm : (a b : List ℕ) → bytes_eq a b ≡ bytes_eq b a
  bytes_symm a b = same_bool _ _ (λ e. (bytes_eq-Decides b a).1 (sym ((bytes_eq-Decides a b).0 e))) (λ e. (bytes_eq-Decides a b).1 (sym ((bytes_eq-Decides b a).0 e)))

  bytes_laws : IsEquivalence bytes_eq
  bytes_laws = record {
    refl = λ a. (bytes_eq-Decides a a).1 refl;
    symm = bytes_symm;
    congr = λ a b c is. ap (λ (x : List ℕ). bytes_eq x c) ((bytes_eq-Decides a b).0 is);
  }

  all_units : (xs : List (List ℕ)) → AllByRecursion (λ _. Unit {0}) xs
  all_units [] = tt
  all_units (x ∷ xs) = (tt, all_units xs)

  table_keys : table_tags key_events ≡ map key_tag own_keys
  table_keys =
      ap (distinct same_tag) (map-map (λ e. e.tag) key_event events ∙ sym (map-map key_tag (λ e. e.tag.key) events))
      ∙ distinct-map bytes_eq same_tag key_tag (λ _. Unit {0}) (λ a b p q. key_same a b) event_keys (all_units event_keys)

  keys_are : event_keys ≡ map (λ tag. tag.key) (all_tags samples)
  keys_are = sym (map-map (λ tag. tag.key) (λ e. e.tag) events) ∙ ap (map (λ tag. tag.key)) (tags_are samples 0)

  -- The entry has the sums of its key, and its number is the key's.
  pub record IsKeyEntry (names : List TagTexts) (e : RankedTag) : Type 0 where
    pub sum : e.sum.sum ≡ key_sum samples e.tag.key
    pub size : e.sum.size ≡ key_size samples e.tag.key
    pub number : e.number ≡ place_of same_tag names (key_tag e.tag.key)
    pub within : e.number < length names

  key_entry : (ks : List (List ℕ)) (tags : List TagTexts) → tags ≡ table_tags key_events → tags ≡ map key_tag ks → (i : ℕ) (d : TagTexts) → i < length tags
      → IsKeyEntry tags (event_entry key_events (get_or tags i d))
  key_entry ks tags are keys i d here =
      let tag : TagTexts = get_or tags i d in
      let is_key : tag ≡ key_tag tag.key = at_all (λ t. t ≡ key_tag t.key) tags i d (subst (AllByRecursion (λ t. t ≡ key_tag t.key)) (sym keys) (all_keys_tags ks)) here in
      let place : place_of same_tag (table_tags key_events) tag ≡ i =
      ap (λ ts. place_of same_tag ts tag) (sym are) ∙ place_at tags i d (subst (IsDistinct same_tag) (sym are) (tags_apart key_events)) here in
      subst (λ (t : TagTexts). (place_of same_tag (table_tags key_events) t ≡ i) → IsKeyEntry tags (event_entry key_events t)) (sym is_key)
      (λ at. record {
        sum = key_sums samples tag.key;
        size = key_sizes samples tag.key;
        number = ap (λ ts. place_of same_tag ts (key_tag tag.key)) (sym are);
        within = omega (arith, at, here);
      }) place
    where
      all_keys_tags : (ks : List (List ℕ)) → AllByRecursion (λ t. t ≡ key_tag t.key) (map key_tag ks)
      all_keys_tags [] = tt
      all_keys_tags (k ∷ ks) = (refl, all_keys_tags ks)

  module _ (keys : TagKeyTable) (is : AreKeys events keys) (before lines : List TagLine) (are : map line_entry before ≡ map (event_entry key_events) (table_tags key_events))
      (moved : IsPermutation before lines) (sorted : IsSortedBy (λ a b. is_lt (line_key_cmp a b)) lines) where
    names_are : keys.keys.names ≡ table_tags key_events
    names_are = is.sums.tags

    entries_keys : All (IsKeyEntry keys.keys.names) (map (event_entry key_events) (table_tags key_events))
    entries_keys =
        subst (λ ts. All (IsKeyEntry keys.keys.names) (map (event_entry key_events) ts)) names_are
        (all_mapped (IsKeyEntry keys.keys.names) (event_entry key_events) keys.keys.names
        (λ k d h. key_entry own_keys keys.keys.names names_are (names_are ∙ table_keys) k d h))

    key_line_of : (line : TagLine) → IsKeyEntry keys.keys.names (line_entry line) → IsKeyLine samples keys.tags.items line
    key_line_of line e = record {
      sum = e.sum;
      size = e.size;
      within = omega (arith, e.within, is.count);
      table = λ d. is.tables (line_key line) line.number d e.number (omega (arith, e.within, is.count));
    }

    pub lines_keys : All (IsKeyLine samples keys.tags.items) lines
    lines_keys = λ k d h. key_line_of (get_or lines k d) (all_lines (IsKeyEntry keys.keys.names) before lines _ are moved entries_keys k d h)

    before_keys : map line_key before ≡ own_keys
    before_keys =
        sym (map-map (λ e. e.tag.key) line_entry before) ∙ ap (map (λ e. e.tag.key)) are ∙ map-map (λ e. e.tag.key) (event_entry key_events) (table_tags key_events)
        ∙ ap (map (λ tag. tag.key)) table_keys ∙ map-map (λ tag. tag.key) key_tag own_keys ∙ map_same own_keys

    moved_keys : IsPermutation (map line_key before) (map line_key lines)
    moved_keys = IsPermutation-map line_key before lines moved

    pub keys_listed : all_keys samples ≡ map line_key lines
    keys_listed =
        each_once_is nat_list_cmp_total bytes_cmp_ties bytes_eq bytes_eq-Decides (map (λ tag. tag.key) (all_tags samples)) (map line_key lines)
        (sorted_as line_key (λ _. Unit {0}) bytes_cmp line_key_cmp (λ a b x y. refl) lines (λ k d h. tt) sorted)
        (IsDistinct-IsPermutation bytes_eq bytes_symm (map line_key before) (map line_key lines) moved_keys (subst (IsDistinct bytes_eq) (sym before_keys) (distinct_apart bytes_eq bytes_laws event_keys)))
        (λ k. ap (list_any (bytes_eq k)) (sym keys_are) ∙ sym (any_distinct bytes_eq bytes_eq-Decides k event_keys) ∙ ap (list_any (bytes_eq k)) (sym before_keys)
        ∙ list_any-IsPermutation (bytes_eq k) (map line_key before) (map line_key lines) moved_keys)
