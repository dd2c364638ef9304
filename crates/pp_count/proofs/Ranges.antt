-- What a report sees of a range of samples, with one more sample.
use Rattle.std.proofs.Common.{◌≡◌, ℕ, ◌+◌, ◌<◌, ◌≤◌, ◌^◌, Bool, true, false, cond, nat_abs, List, [], ◌∷◌, ◌++◌, length, take, get_or, map, All, Option, Some, None, option_map, refl, sym, ap, ◌∙◌, subst, arith, length-append}
use Rattle.std.specs.List.{cons_option}
use Rattle.std.specs.Option.{is_some}
use Rattle.std.specs.Ordering.{nat_cmp}
use Rattle.std.proofs.lemmas.List.{take_more, map-append, append-nil, length-take-le}
use Rattle.std.proofs.lemmas.List.Elements.{filter_map-append, All-push, All-nil}
use Rattle.std.proofs.lemmas.List.Sums.{sum_by-cons, sum_by-append, sum_by_more_le}
use Rattle.pp_model.specs.declared.frame.Frame.{Frame}
use Rattle.pp_model.specs.declared.profile.Sample.{Sample}
use Rattle.pp_model.specs.Finders.{Finders}
use Rattle.pp_model.specs.FrameTexts.{Written}
use Rattle.pp_stack.specs.Runs.{kept_if}
use Rattle.pp_count.specs.declared.scope.Scope.{Scope}
use Rattle.pp_count.specs.declared.tally.Tally.{Tally}
use Rattle.pp_count.specs.Column.{selected}
use Rattle.pp_count.specs.Table.{written_key}
use Rattle.pp_count.specs.Sums.{Seen, weighed, absolute, renamed, has, leads}
use Rattle.pp_count.specs.Seeing.{HoldsFilters, keys_of_stack, filtered_stack, seen_with, seen, seen_samples, numbers_from, filtered_from}
use Rattle.pp_count.specs.Tally.{no_tally, with_seen, IsTallyOf}
use Rattle.pp_count.specs.Parts.{HasBelow}
use Rattle.pp_count.specs.Edges.{counted_keys}
use Rattle.pp_count.specs.Scope.{profile_in_scope, config_of, over_of, size_of, AreSeen, counted_as, CountedTo}
use Rattle.pp_count.specs.Rising.{AreRisingBetween}
use Rattle.pp_count.proofs.Adding.{Added, added_more, sum_bound}
use Rattle.pp_count.proofs.Rising.{rising_none, rising_high, rising_push}

-- the names of the key numbers of a scope
abbrev pub name_of : Scope → ℕ → Written
name_of scope = written_key (profile_in_scope scope) scope.table.now.names

-- what is seen of the sample where the filters leave this
abbrev pub seen_if : Scope → Sample → Option (List Written) → Option (Seen Written)
seen_if scope s keys = option_map (λ ks. record { value = selected scope.column scope.config.now.presentation.divide_by s; keys = ks }) keys

seen_is : (scope : Scope) (f : Finders) (s : Sample) (stack : Option (List Frame))
    → option_map (seen_with (profile_in_scope scope) (config_of scope) scope.column s) stack ≡ seen_if scope s (option_map (keys_of_stack (profile_in_scope scope) scope.grouping) stack)
seen_is scope f s None = refl
seen_is scope f s (Some x) = refl

-- whether the filters leave something
pub some_is : (scope : Scope) (stack : Option (List Frame)) (kept : Bool) (keys : List Written)
    → option_map (keys_of_stack (profile_in_scope scope) scope.grouping) stack ≡ kept_if kept keys → is_some stack ≡ kept
some_is scope None true keys e = cc
some_is scope None false keys e = refl
some_is scope (Some x) true keys e = refl
some_is scope (Some x) false keys e = cc

-- What was found of one sample: the filters keep it or not, and its key numbers.
abbrev pub IsSeen : Scope → Sample → Bool → List ℕ → Type 0
IsSeen scope s kept keys = (f : Finders) → HoldsFilters scope.l.now scope.v.now scope.config.now.filtering f
    → option_map (keys_of_stack (profile_in_scope scope) scope.grouping) (filtered_stack (profile_in_scope scope) f scope.config.now.filtering s) ≡ kept_if kept (map (name_of scope) keys)

-- the sample by its key numbers
abbrev pub by_numbers : Scope → Sample → List ℕ → Seen ℕ
by_numbers scope s keys = record { value = selected scope.column scope.config.now.presentation.divide_by s; keys = keys }

size_more : (scope : Scope) (samples : List Sample) (s : Sample) → size_of scope (samples ++ s ∷ []) ≡ size_of scope samples + nat_abs (selected scope.column scope.config.now.presentation.divide_by s)
size_more scope samples s =
    let f : Sample → ℕ = λ x. nat_abs (selected scope.column scope.config.now.presentation.divide_by x) in
    omega (arith, sum_by-append f samples (s ∷ []), sum_by-cons f s [])

-- one more sample, which the filters keep
pub seen_more : (scope : Scope) (samples : List Sample) (ss : List (Seen ℕ)) (s : Sample) (keys : List ℕ) → IsSeen scope s true keys
    → All (λ k. k < length scope.table.now.names) keys
    → AreSeen scope samples ss → AreSeen scope (samples ++ s ∷ []) (ss ++ by_numbers scope s keys ∷ [])
seen_more scope samples ss s keys is below so_far = record {
  below = All-push (HasBelow (length scope.table.now.names)) ss (by_numbers scope s keys) so_far.below below;
  within =
      let size : Seen ℕ → ℕ = λ x. nat_abs x.value in
      omega (arith, so_far.within, size_more scope samples s, sum_by-append size ss (by_numbers scope s keys ∷ []), sum_by-cons size (by_numbers scope s keys) []);
  are = λ f holds.
      map-append (renamed (name_of scope)) ss (by_numbers scope s keys ∷ [])
      ∙ (λ i. so_far.are f holds i ++ cons_option (seen_if scope s (sym (is f holds) i)) [])
      ∙ ap (λ o. seen_samples (profile_in_scope scope) f (config_of scope) scope.column samples ++ cons_option o []) (sym (seen_is scope f s (filtered_stack (profile_in_scope scope) f scope.config.now.filtering s)))
      ∙ sym (filter_map-append (seen (profile_in_scope scope) f (config_of scope) scope.column) samples (s ∷ []));
}

-- one more sample, which they drop
pub seen_same : (scope : Scope) (samples : List Sample) (ss : List (Seen ℕ)) (s : Sample) (keys : List ℕ) → IsSeen scope s false keys
    → AreSeen scope samples ss → AreSeen scope (samples ++ s ∷ []) ss
seen_same scope samples ss s keys is so_far = record {
  below = so_far.below;
  within = omega (arith, so_far.within, size_more scope samples s);
  are = λ f holds.
      sym (append-nil (map (renamed (name_of scope)) ss))
      ∙ (λ i. so_far.are f holds i ++ cons_option (seen_if scope s (sym (is f holds) i)) [])
      ∙ ap (λ o. seen_samples (profile_in_scope scope) f (config_of scope) scope.column samples ++ cons_option o []) (sym (seen_is scope f s (filtered_stack (profile_in_scope scope) f scope.config.now.filtering s)))
      ∙ sym (filter_map-append (seen (profile_in_scope scope) f (config_of scope) scope.column) samples (s ∷ []));
}

-- the numbers of two ranges
pub numbers-append : (test : Sample → Bool) (n m : ℕ) (a b : List Sample) → n + length a ≡ m → numbers_from test n (a ++ b) ≡ numbers_from test n a ++ numbers_from test m b
numbers-append test n m [] b e = ap (λ k. numbers_from test k b) (omega (arith, e))
numbers-append test n m (s ∷ a) b e =
    elim (test s) as (λ w. cond w (n ∷ numbers_from test (n + 1) (a ++ b)) (numbers_from test (n + 1) (a ++ b)) ≡ cond w (n ∷ numbers_from test (n + 1) a) (numbers_from test (n + 1) a) ++ numbers_from test m b) [
      | true ↦ ap (λ ks. n ∷ ks) (numbers-append test (n + 1) m a b (omega (arith, e)))
      | false ↦ numbers-append test (n + 1) m a b (omega (arith, e))
    ]

-- the numbers with that of one more sample
kept_more : (scope : Scope) (f : Finders) (number i : ℕ) (samples : List Sample) (s : Sample) (kept : Bool) (keys : List ℕ)
    → HoldsFilters scope.l.now scope.v.now scope.config.now.filtering f → IsSeen scope s kept keys → length samples ≡ i
    → filtered_from (profile_in_scope scope) f scope.config.now.filtering number (samples ++ s ∷ []) ≡ filtered_from (profile_in_scope scope) f scope.config.now.filtering number samples ++ cond kept ((number + i) ∷ []) []
kept_more scope f number i samples s kept keys holds is long =
    numbers-append (λ x. is_some (filtered_stack (profile_in_scope scope) f scope.config.now.filtering x)) number (number + i) samples (s ∷ []) (omega (arith, long))
    ∙ ap (λ w. filtered_from (profile_in_scope scope) f scope.config.now.filtering number samples ++ cond w ((number + i) ∷ []) [])
    (some_is scope (filtered_stack (profile_in_scope scope) f scope.config.now.filtering s) kept (map (name_of scope) keys) (is f holds))

-- what is counted of samples is as large as they are
pub counted_size : (scope : Scope) (ss : List (Seen ℕ)) → absolute (map (counted_as scope) ss) ≡ absolute ss
counted_size scope [] = refl
counted_size scope (s ∷ ss) =
    let size : Seen ℕ → ℕ = λ x. nat_abs x.value in
    omega (arith, sum_by-cons size s ss, sum_by-cons size (counted_as scope s) (map (counted_as scope) ss), counted_size scope ss)

-- the range with one more sample
pub take_one : (samples : List Sample) (i : ℕ) (s : Sample) → i < length samples → s ≡ get_or samples i s → take i samples ++ s ∷ [] ≡ take (i + 1) samples
take_one samples i s here is = ap (λ r. take i samples ++ r ∷ []) is ∙ sym (take_more samples i s here)

long_more : (samples : List Sample) (i : ℕ) (s : Sample) → i < length samples → length (take i samples ++ s ∷ []) ≡ i + 1
long_more samples i s here = omega (arith, length-append (take i samples) (s ∷ []), length-take-le i samples (omega (arith, here)))

-- before the first sample nothing is counted
pub counted_none : (scope : Scope) (number : ℕ) (at : ℕ → Tally) (kept : List ℕ) → ((k : ℕ) → at k ≡ no_tally) → kept ≡ []
    → CountedTo scope number 0 [] at kept
counted_none scope number at kept none empty = record {
  seen = [];
  are = record { below = All-nil (HasBelow (length scope.table.now.names)); within = omega arith; are = λ f holds. refl };
  tallies = λ k. subst (λ (t : Tally). IsTallyOf [] k t) (sym (none k)) (record { flat = refl; cum = refl; occurs = refl });
  earlier = λ k. rw (none k) (omega arith);
  kept = λ f holds. empty;
  rising = subst (AreRisingBetween number (number + 0)) (sym empty) (rising_none number (number + 0));
}

-- one more sample that is kept
pub counted_kept : (scope : Scope) (number i : ℕ) (samples : List Sample) (s : Sample) (keys : List ℕ) (at new : ℕ → Tally) (kept : List ℕ)
    → i < length samples → s ≡ get_or samples i s → IsSeen scope s true keys → All (λ k. k < length scope.table.now.names) keys
    → ((k : ℕ) → new k ≡ with_seen (selected scope.column scope.config.now.presentation.divide_by s) (i + 1) (counted_keys (over_of scope) keys) k (at k))
    → CountedTo scope number i (take i samples) at kept → CountedTo scope number (i + 1) (take (i + 1) samples) new (kept ++ (number + i) ∷ [])
counted_kept scope number i samples s keys at new kept here at_i is below each so_far =
    let more : List (Seen ℕ) = so_far.seen ++ by_numbers scope s keys ∷ [] in
    let added : Added (map (counted_as scope) so_far.seen ++ counted_as scope (by_numbers scope s keys) ∷ []) (i + 1) new =
    added_more (map (counted_as scope) so_far.seen) (counted_as scope (by_numbers scope s keys)) i at new (record { tallies = so_far.tallies; earlier = so_far.earlier }) each in
    let counted : map (counted_as scope) more ≡ map (counted_as scope) so_far.seen ++ counted_as scope (by_numbers scope s keys) ∷ [] =
    map-append (counted_as scope) so_far.seen (by_numbers scope s keys ∷ []) in
    subst (λ (r : List Sample). CountedTo scope number (i + 1) r new (kept ++ (number + i) ∷ [])) (take_one samples i s here at_i) (record {
      seen = more;
      are = seen_more scope (take i samples) so_far.seen s keys is below so_far.are;
      tallies = λ k. subst (λ (r : List (Seen ℕ)). IsTallyOf (weighed r) k (new k)) (sym counted) (added.tallies k);
      earlier = added.earlier;
      kept = λ f holds. ap (λ ks. ks ++ (number + i) ∷ []) (so_far.kept f holds)
          ∙ sym (kept_more scope f number i (take i samples) s true keys holds is (length-take-le i samples (omega (arith, here))));
      rising = rising_high number (number + i + 1) (number + length (take i samples ++ s ∷ [])) (kept ++ (number + i) ∷ []) (omega (arith, long_more samples i s here))
          (rising_push number (number + i) kept (omega arith) (rising_high number (number + length (take i samples)) (number + i) kept (omega (arith, length-take-le i samples (omega (arith, here)))) so_far.rising));
    })

-- one more sample that is dropped
pub counted_dropped : (scope : Scope) (number i : ℕ) (samples : List Sample) (s : Sample) (keys : List ℕ) (at : ℕ → Tally) (kept : List ℕ)
    → i < length samples → s ≡ get_or samples i s → IsSeen scope s false keys
    → CountedTo scope number i (take i samples) at kept → CountedTo scope number (i + 1) (take (i + 1) samples) at kept
counted_dropped scope number i samples s keys at kept here at_i is so_far =
    subst (λ (r : List Sample). CountedTo scope number (i + 1) r at kept) (take_one samples i s here at_i) (record {
      seen = so_far.seen;
      are = seen_same scope (take i samples) so_far.seen s keys is so_far.are;
      tallies = so_far.tallies;
      earlier = λ k. omega (arith, so_far.earlier k);
      kept = λ f holds. so_far.kept f holds ∙ sym (append-nil (filtered_from (profile_in_scope scope) f scope.config.now.filtering number (take i samples)))
          ∙ sym (kept_more scope f number i (take i samples) s false keys holds is (length-take-le i samples (omega (arith, here))));
      rising = rising_high number (number + length (take i samples)) (number + length (take i samples ++ s ∷ [])) kept (omega (arith, length-append (take i samples) (s ∷ []))) so_far.rising;
    })

-- the value of one more sample can be added
pub room : (scope : Scope) (number i : ℕ) (samples : List Sample) (s : Sample) (at : ℕ → Tally) (kept : List ℕ)
    → i < length samples → s ≡ get_or samples i s → size_of scope samples < 2 ^ 63
    → CountedTo scope number i (take i samples) at kept
    → (k : ℕ) → (nat_abs (at k).cum + nat_abs (selected scope.column scope.config.now.presentation.divide_by s) < 2 ^ 63)
    × (nat_abs (at k).flat + nat_abs (selected scope.column scope.config.now.presentation.divide_by s) < 2 ^ 63)
room scope number i samples s at kept here at_i fits so_far k =
    let size : Sample → ℕ = λ x. nat_abs (selected scope.column scope.config.now.presentation.divide_by x) in
    let left : size_of scope (take i samples) + size s ≤ size_of scope samples =
    subst (λ (x : Sample). size_of scope (take i samples) + size x ≤ size_of scope samples) (sym at_i) (sum_by_more_le size samples i s here) in
    let counted : List (Seen ℕ) = map (counted_as scope) so_far.seen in (
      omega (arith, fits, left, so_far.are.within, counted_size scope so_far.seen, sum_bound (has nat_cmp k) counted, ap nat_abs (so_far.tallies k).cum),
      omega (arith, fits, left, so_far.are.within, counted_size scope so_far.seen, sum_bound (leads nat_cmp k) counted, ap nat_abs (so_far.tallies k).flat),
    )
