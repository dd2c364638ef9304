-- The part of a range by what its samples are, and the parts of consecutive ranges joined.
use Rattle.std.proofs.Common.{◌≡◌, ◌==◌, ℕ, ◌+◌, ◌<◌, ◌≤◌, Bool, cond, ltb, not, pos, nat_abs, List, [], ◌∷◌, ◌++◌, length, take, drop, get_or, map, All, Option, None, refl, sym, ap, ◌∙◌, subst, append_assoc, arith, length-append}
use Rattle.std.specs.Option.{is_some}
use Rattle.std.specs.Ordering.{nat_cmp, int_eq}
use Rattle.std.proofs.lemmas.Grind.{flat_map-append}
use Rattle.std.proofs.lemmas.List.{take_more, take_all, take-append-drop, append-nil}
use Rattle.std.proofs.lemmas.List.Elements.{All-filter, filter-append, filter_map-append}
use Rattle.std.proofs.lemmas.List.Sums.{sum_by-append}
use Rattle.std.proofs.lemmas.Bool.{false_from_ne_true}
use Rattle.pp_model.specs.declared.config.Config.{Config}
use Rattle.pp_model.specs.declared.loaded.Loaded.{Loaded}
use Rattle.pp_model.specs.declared.profile.Sample.{Sample}
use Rattle.pp_model.specs.declared.verdicts.Verdicts.{Verdicts}
use Rattle.pp_model.specs.Finders.{Finders}
use Rattle.pp_model.specs.FrameTexts.{Written}
use Rattle.pp_model.specs.Rules.{IsCompact}
use Rattle.pp_grain.specs.declared.key.Key.{Key}
use Rattle.pp_grain.specs.Keys.{key_cmp}
use Rattle.pp_count.specs.declared.part.KeySum.{KeySum}
use Rattle.pp_count.specs.declared.part.Part.{Part}
use Rattle.pp_count.specs.declared.scope.Scope.{Scope}
use Rattle.pp_count.specs.declared.tally.Tally.{Tally}
use Rattle.pp_count.specs.Column.{selected}
use Rattle.pp_count.specs.Joined.{IsRangePart, AreConsecutive, CanJoin, samples_of_ranges, all_kept, all_sums}
use Rattle.pp_count.specs.Matches.{matches_among, no_matches, either}
use Rattle.pp_count.specs.Parts.{sums_of, key_sum, AreKeySums, flat_size, cum_size, HasBelow}
use Rattle.pp_count.specs.Scope.{profile_in_scope, config_of, IsPartOf}
use Rattle.pp_count.specs.Seeing.{HoldsFilters, seen, seen_samples, filtered_stack, filtered_from, absolute_all}
use Rattle.pp_count.specs.Sums.{Seen, flat, cum, occurs, has, leads, weighed, renamed}
use Rattle.pp_count.specs.Table.{written_key, IsKeyTable}
use Rattle.pp_count.specs.Tally.{no_tally, tally_added, tally_entry}
use Rattle.pp_count.proofs.Adding.{sum_bound}
use Rattle.pp_count.proofs.CallerLemmas.{weighed-renamed}
use Rattle.pp_count.proofs.Joining.{IsTallyBy, tally_joined, added-append, flat_bound, cum_bound}
use Rattle.pp_count.proofs.Keyed.{apart, plain}
use Rattle.pp_count.proofs.Matching.{none_match, either_match}
use Rattle.pp_count.proofs.Pieces.{HasRoom, size_if}
use Rattle.pp_count.proofs.Ranges.{name_of, numbers-append}
use Rattle.pp_count.proofs.Renaming.{occurs_below, occurs_named, cum-renamed, flat-renamed}

-- The part of a range, by what its samples are.
pub range_part : (scope : Scope) (number m : ℕ) (samples : List Sample) (part : Part) → scope.over ≡ None → scope.chosen ≡ None → IsCompact (profile_in_scope scope)
    → IsKeyTable (profile_in_scope scope) scope.grouping scope.table.now → number ≡ m → IsPartOf scope number samples part
    → IsRangePart scope.l.now scope.v.now (config_of scope) scope.column scope.table.now.names m samples part
range_part scope number m samples part none all compact table same is =
    let n : ℕ = length scope.table.now.names in
    let name : ℕ → Written = name_of scope in
    let S : List (Seen ℕ) = weighed is.seen in
    let S_below : All (HasBelow n) S = All-filter (λ (s : Seen ℕ). not (int_eq s.value (pos 0))) (HasBelow n) is.seen is.are.below in
    let sums_are : AreKeySums S part.sums = subst (λ (r : List (Seen ℕ)). AreKeySums (weighed r) part.sums) (plain scope none is.seen) is.sums in
    let far = apart (profile_in_scope scope) compact scope.table.now.names table.keys table.distinct in
    record {
      kept = λ f holds. is.kept f holds ∙ ap (λ j. filtered_from (profile_in_scope scope) f scope.config.now.filtering j samples) same;
      sums = λ f holds.
          let T_is : map (renamed name) S ≡ weighed (seen_samples (profile_in_scope scope) f (config_of scope) scope.column samples) =
          sym (weighed-renamed name is.seen) ∙ ap weighed (is.are.are f holds) in
          record {
            each = λ k below. sums_are k ∙ (λ i. cond
                ((sym (occurs_named key_cmp name n far k S below S_below) ∙ ap (λ r. occurs key_cmp r (name k)) T_is) i)
                (record {
                  key = k;
                  flat = (sym (flat-renamed key_cmp name n far k S below S_below) ∙ ap (λ r. flat key_cmp r (name k)) T_is) i;
                  cum = (sym (cum-renamed key_cmp name n far k S below S_below) ∙ ap (λ r. cum key_cmp r (name k)) T_is) i;
                } ∷ []) []);
            no_other = λ k above. sums_are k
                ∙ ap (λ b. cond b (key_sum S k ∷ []) []) (false_from_ne_true (occurs nat_cmp S k) (λ found. absurd (omega (arith, above, occurs_below n k S S_below found))));
          };
      matched = λ f holds. is.matched all f holds;
      within = λ k. record {
        flat = rw (sums_are k)
            (omega (arith, is.are.within, sum_bound (leads nat_cmp k) is.seen, size_if (λ (e : KeySum). nat_abs e.flat) (key_sum S k) (occurs nat_cmp S k)));
        cum = rw (sums_are k)
            (omega (arith, is.are.within, sum_bound (has nat_cmp k) is.seen, size_if (λ (e : KeySum). nat_abs e.cum) (key_sum S k) (occurs nat_cmp S k)));
      };
    }

-- these matches with those of the parts, in order
abbrev all_matched : List Bool → List Part → List Bool
all_matched slots [] = slots
all_matched slots (part ∷ parts) = all_matched (either slots part.matched.slots) parts

matched-append : (slots : List Bool) (xs ys : List Part) → all_matched slots (xs ++ ys) ≡ all_matched (all_matched slots xs) ys
matched-append slots [] ys = refl
matched-append slots (x ∷ xs) ys = matched-append (either slots x.matched.slots) xs ys

module _ (l : Loaded) (v : Verdicts) (config : Config) (column : Option ℕ) (names : List Key) where
  -- what the samples put into the report
  abbrev put : Finders → List Sample → List (Seen Written)
  put f samples = weighed (seen_samples l.profile f config column samples)

  put-append : (f : Finders) (a b : List Sample) → put f (a ++ b) ≡ put f a ++ put f b
  put-append f a b =
      ap weighed (filter_map-append (seen l.profile f config column) a b)
      ∙ filter-append (λ (s : Seen Written). not (int_eq s.value (pos 0))) (seen_samples l.profile f config column a) (seen_samples l.profile f config column b)

  -- The samples of the ranges so far are in the tallies, and the numbers of those that the filters leave are listed.
  pub record JoinedTo (number : ℕ) (samples : List Sample) (at : ℕ → Tally) (kept : List ℕ) (slots : List Bool) : Type 0 where
    kept_are : (f : Finders) → HoldsFilters l v config.filtering f → kept ≡ filtered_from l.profile f config.filtering number samples
    slots_are : (f : Finders) → HoldsFilters l v config.filtering f → slots ≡ matches_among l.profile f config.filtering samples
    tallies : (f : Finders) → HoldsFilters l v config.filtering f → (k : ℕ) → k < length names
        → IsTallyBy key_cmp (put f samples) (written_key l.profile names k) (at k)
    no_other : (f : Finders) → HoldsFilters l v config.filtering f → (k : ℕ) → length names ≤ k → (at k).last ≡ 0
    flat_within : (k : ℕ) → nat_abs (at k).flat ≤ absolute_all column config.presentation.divide_by samples
    cum_within : (k : ℕ) → nat_abs (at k).cum ≤ absolute_all column config.presentation.divide_by samples

  pub none_joined : (number : ℕ) → JoinedTo number [] (λ k. no_tally) [] no_matches
  none_joined number = record {
    kept_are = λ f holds. refl;
    slots_are = λ f holds. none_match l.profile f config.filtering;
    tallies = λ f holds k below. record { flat_is = refl; cum_is = refl; occurs_is = refl };
    no_other = λ f holds k above. refl;
    flat_within = λ k. omega arith;
    cum_within = λ k. omega arith;
  }

  -- with the part of one more range
  one_joined : (number : ℕ) (a b : List Sample) (at : ℕ → Tally) (kept : List ℕ) (slots : List Bool) (part : Part) → JoinedTo number a at kept slots
      → IsRangePart l v config column names (number + length a) b part
      → JoinedTo number (a ++ b) (λ k. tally_added (at k) (sums_of k part.sums)) (kept ++ part.kept) (either slots part.matched.slots)
  one_joined number a b at kept slots part before is =
      let size : Sample → ℕ = λ s. nat_abs (selected column config.presentation.divide_by s) in
      record {
        kept_are = λ f holds. (λ i. before.kept_are f holds i ++ is.kept f holds i)
            ∙ sym (numbers-append (λ x. is_some (filtered_stack l.profile f config.filtering x)) number (number + length a) a b refl);
        slots_are = λ f holds. (λ i. either (before.slots_are f holds i) (is.matched f holds i)) ∙ either_match l.profile f config.filtering a b;
        tallies = λ f holds k below.
            let w : Written = written_key l.profile names k in
            subst (λ (r : List (Seen Written)). IsTallyBy key_cmp r w (tally_added (at k) (sums_of k part.sums))) (sym (put-append f a b))
            (subst (λ (es : List KeySum). IsTallyBy key_cmp (put f a ++ put f b) w (tally_added (at k) es)) (sym ((is.sums f holds).each k below))
            (tally_joined key_cmp (put f a) (put f b) w k (at k) (occurs key_cmp (put f b) w) refl (before.tallies f holds k below)));
        no_other = λ f holds k above. ap (λ es. (tally_added (at k) es).last) ((is.sums f holds).no_other k above) ∙ before.no_other f holds k above;
        flat_within = λ k. omega (arith, flat_bound (at k) (sums_of k part.sums), (is.within k).flat, before.flat_within k, sum_by-append size a b);
        cum_within = λ k. omega (arith, cum_bound (at k) (sums_of k part.sums), (is.within k).cum, before.cum_within k, sum_by-append size a b);
      }

  same_joined : (number : ℕ) (a b : List Sample) (at new : ℕ → Tally) (kept more : List ℕ) (slots : List Bool) → a ≡ b → ((k : ℕ) → at k ≡ new k) → kept ≡ more
      → JoinedTo number a at kept slots → JoinedTo number b new more slots
  same_joined number a b at new kept more slots samples_are each kept_are joined =
      subst (λ (r : List Sample). JoinedTo number r new more slots) samples_are
      (subst (λ (r : ℕ → Tally). JoinedTo number a r more slots) (λ i k. each k i)
      (subst (λ (r : List ℕ). JoinedTo number a at r slots) kept_are joined))

  -- with the parts of all ranges
  pub all_joined : (ranges : List (List Sample)) (parts : List Part) (number : ℕ) (a : List Sample) (at : ℕ → Tally) (kept : List ℕ) (slots : List Bool)
      → JoinedTo number a at kept slots → AreConsecutive l v config column names (number + length a) ranges parts
      → JoinedTo number (a ++ samples_of_ranges ranges) (λ k. tally_added (at k) (sums_of k (all_sums parts))) (kept ++ all_kept parts) (all_matched slots parts)
  all_joined [] [] number a at kept slots before are =
      same_joined number a (a ++ []) at at kept (kept ++ []) slots (sym (append-nil a)) (λ k. refl) (sym (append-nil kept)) before
  all_joined [] (part ∷ parts) number a at kept slots before are = absurd are
  all_joined (b ∷ ranges) [] number a at kept slots before are = absurd are
  all_joined (b ∷ ranges) (part ∷ parts) number a at kept slots before are =
      let at_part : ℕ → Tally = λ k. tally_added (at k) (sums_of k part.sums) in
      same_joined number ((a ++ b) ++ samples_of_ranges ranges) (a ++ (b ++ samples_of_ranges ranges))
      (λ k. tally_added (at_part k) (sums_of k (all_sums parts))) (λ k. tally_added (at k) (sums_of k (part.sums ++ all_sums parts)))
      ((kept ++ part.kept) ++ all_kept parts) (kept ++ (part.kept ++ all_kept parts)) (all_matched (either slots part.matched.slots) parts)
      (append_assoc a b (samples_of_ranges ranges))
      (λ k. sym (added-append (at k) (sums_of k part.sums) (sums_of k (all_sums parts)))
      ∙ ap (tally_added (at k)) (sym (filter-append (λ (e : KeySum). e.key == k) part.sums (all_sums parts))))
      (append_assoc kept part.kept (all_kept parts))
      (all_joined ranges parts number (a ++ b) at_part (kept ++ part.kept) (either slots part.matched.slots) (one_joined number a b at kept slots part before are.0)
      (subst (λ (m : ℕ). AreConsecutive l v config column names m ranges parts) (omega (arith, length-append a b)) are.1))

  -- the part that lists the tallies
  pub joined_part : (number : ℕ) (samples : List Sample) (at : ℕ → Tally) (kept : List ℕ) (slots : List Bool) (part : Part) → JoinedTo number samples at kept slots
      → part.kept ≡ kept → part.matched.slots ≡ slots → ((k : ℕ) → sums_of k part.sums ≡ tally_entry k (at k)) → IsRangePart l v config column names number samples part
  joined_part number samples at kept slots part joined same matched entries = record {
    kept = λ f holds. same ∙ joined.kept_are f holds;
    matched = λ f holds. matched ∙ joined.slots_are f holds;
    sums = λ f holds. record {
      each = λ k below.
          let t = joined.tallies f holds k below in
          entries k ∙ (λ i. cond (t.occurs_is i) (record { key = k; flat = t.flat_is i; cum = t.cum_is i } ∷ []) []);
      no_other = λ k above. entries k
          ∙ ap (λ j. cond (ltb 0 j) (record { key = k; flat = (at k).flat; cum = (at k).cum } ∷ []) []) (joined.no_other f holds k above);
    };
    within = λ k.
        let e : KeySum = record { key = k; flat = (at k).flat; cum = (at k).cum } in
        record {
          flat = rw (entries k) (omega (arith, joined.flat_within k, size_if (λ (x : KeySum). nat_abs x.flat) e (ltb 0 (at k).last)));
          cum = rw (entries k) (omega (arith, joined.cum_within k, size_if (λ (x : KeySum). nat_abs x.cum) e (ltb 0 (at k).last)));
        };
  }

-- the entries of a key over two lists of parts
entries-append : (k : ℕ) (xs ys : List Part) → sums_of k (all_sums (xs ++ ys)) ≡ sums_of k (all_sums xs) ++ sums_of k (all_sums ys)
entries-append k xs ys =
    ap (sums_of k) (flat_map-append (λ (part : Part). part.sums) xs ys) ∙ filter-append (λ (e : KeySum). e.key == k) (all_sums xs) (all_sums ys)

-- The parts so far are added.
pub record AddedTo (parts : List Part) (i : ℕ) (at : ℕ → Tally) (kept : List ℕ) (slots : List Bool) : Type 0 where
  pub kept_are : kept ≡ all_kept (take i parts)
  pub slots_are : slots ≡ all_matched no_matches (take i parts)
  pub tallies : (k : ℕ) → at k ≡ tally_added no_tally (sums_of k (all_sums (take i parts)))

-- before the first part nothing is added
pub none_added : (parts : List Part) (at : ℕ → Tally) (kept : List ℕ) (slots : List Bool) → ((k : ℕ) → at k ≡ no_tally) → kept ≡ [] → slots ≡ no_matches → AddedTo parts 0 at kept slots
none_added parts at kept slots none empty unmatched = record { kept_are = empty; slots_are = unmatched; tallies = none }

module _ (parts items : List Part) (same : items ≡ parts) (i : ℕ) (part : Part) (here : i < length items) (is : part ≡ get_or items i part) where
  front_is : take (i + 1) parts ≡ take i parts ++ part ∷ []
  front_is = take_more parts i part (omega (arith, here, ap length same)) ∙ ap (λ x. take i parts ++ x ∷ []) (sym (is ∙ ap (λ ps. get_or ps i part) same))

  -- the entries of a key with those of the next part
  entries_more : (k : ℕ) → sums_of k (all_sums (take (i + 1) parts)) ≡ sums_of k (all_sums (take i parts)) ++ sums_of k part.sums
  entries_more k =
      ap (λ ps. sums_of k (all_sums ps)) front_is ∙ entries-append k (take i parts) (part ∷ [])
      ∙ ap (λ es. sums_of k (all_sums (take i parts)) ++ sums_of k es) (append-nil part.sums)

  -- the sums of the next part can be added
  pub next_room : (at : ℕ → Tally) (kept : List ℕ) (slots : List Bool) → CanJoin parts → AddedTo parts i at kept slots → (k : ℕ) → HasRoom at part.sums k
  next_room at kept slots can so_far k =
      let front : List KeySum = sums_of k (all_sums (take i parts)) in
      let rest : List KeySum = sums_of k (all_sums (drop (i + 1) parts)) in
      let whole : sums_of k (all_sums parts) ≡ (front ++ sums_of k part.sums) ++ rest =
      ap (λ ps. sums_of k (all_sums ps)) (sym (take-append-drop (i + 1) parts)) ∙ entries-append k (take (i + 1) parts) (drop (i + 1) parts)
      ∙ ap (λ es. es ++ rest) (entries_more k) in
      record {
        flat = rw (so_far.tallies k)
            (omega (
              arith,
              can.flat k,
              flat_bound no_tally front,
              ap flat_size whole ∙ sum_by-append (λ (e : KeySum). nat_abs e.flat) (front ++ sums_of k part.sums) rest,
              sum_by-append (λ (e : KeySum). nat_abs e.flat) front (sums_of k part.sums),
            ));
        cum = rw (so_far.tallies k)
            (omega (
              arith,
              can.cum k,
              cum_bound no_tally front,
              ap cum_size whole ∙ sum_by-append (λ (e : KeySum). nat_abs e.cum) (front ++ sums_of k part.sums) rest,
              sum_by-append (λ (e : KeySum). nat_abs e.cum) front (sums_of k part.sums),
            ));
      }

  -- with the next part
  pub next_added : (at new : ℕ → Tally) (kept more : List ℕ) (slots joined : List Bool) → AddedTo parts i at kept slots → more ≡ kept ++ part.kept
      → ((k : ℕ) → new k ≡ tally_added (at k) (sums_of k part.sums)) → joined ≡ either slots part.matched.slots → AddedTo parts (i + 1) new more joined
  next_added at new kept more slots joined so_far kept_are each joined_are = record {
    slots_are = joined_are ∙ ap (λ bs. either bs part.matched.slots) so_far.slots_are
        ∙ sym (ap (all_matched no_matches) front_is ∙ matched-append no_matches (take i parts) (part ∷ []));
    kept_are = kept_are ∙ ap (λ ks. ks ++ part.kept) so_far.kept_are
        ∙ ap (λ ks. all_kept (take i parts) ++ ks) (sym (append-nil part.kept))
        ∙ sym (ap all_kept front_is ∙ flat_map-append (λ (x : Part). x.kept) (take i parts) (part ∷ []));
    tallies = λ k. each k ∙ ap (λ t. tally_added t (sums_of k part.sums)) (so_far.tallies k)
        ∙ sym (added-append no_tally (sums_of k (all_sums (take i parts))) (sums_of k part.sums)) ∙ ap (tally_added no_tally) (sym (entries_more k));
  }

-- the part that lists all of them
pub parts_joined : (l : Loaded) (v : Verdicts) (config : Config) (column : Option ℕ) (names : List Key) (number : ℕ) (ranges : List (List Sample)) (parts items : List Part) (i : ℕ)
    (at : ℕ → Tally) (kept : List ℕ) (slots : List Bool) (whole : Part)
    → items ≡ parts → length items ≤ i → AddedTo parts i at kept slots → whole.kept ≡ kept → whole.matched.slots ≡ slots → ((k : ℕ) → sums_of k whole.sums ≡ tally_entry k (at k))
    → AreConsecutive l v config column names number ranges parts
    → IsRangePart l v config column names number (samples_of_ranges ranges) whole
parts_joined l v config column names number ranges parts items i at kept slots whole same all so_far kept_same matched_same entries are =
    let everything : take i parts ≡ parts = take_all i parts (omega (arith, all, ap length same)) in
    joined_part l v config column names number (samples_of_ranges ranges) (λ k. tally_added no_tally (sums_of k (all_sums parts))) (all_kept parts) (all_matched no_matches parts) whole
    (all_joined l v config column names ranges parts number [] (λ k. no_tally) [] no_matches (none_joined l v config column names number)
    (subst (λ (m : ℕ). AreConsecutive l v config column names m ranges parts) (omega arith) are))
    (kept_same ∙ so_far.kept_are ∙ ap all_kept everything)
    (matched_same ∙ so_far.slots_are ∙ ap (all_matched no_matches) everything)
    (λ k. entries k ∙ ap (tally_entry k) (so_far.tallies k ∙ ap (λ ps. tally_added no_tally (sums_of k (all_sums ps))) everything))
