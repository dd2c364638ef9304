-- The samples of the pieces so far, and what they come to with one more piece.
use Rattle.std.proofs.Common.{◌≡◌, ℕ, ◌+◌, ◌*◌, ◌<◌, ◌≤◌, ◌^◌, Bool, true, false, cond, nat_abs, List, [], ◌∷◌, ◌++◌, length, take, get_or, map, All, sym, ap, ◌∙◌, subst, arith, add_assoc, length-append}
use Rattle.std.specs.List.{sum_by}
use Rattle.std.specs.Option.{is_some}
use Rattle.std.specs.Ordering.{nat_cmp}
use Rattle.std.proofs.Math.Seq.{take-add}
use Rattle.std.proofs.lemmas.List.{map-append, length-take-le}
use Rattle.std.proofs.lemmas.List.Elements.{filter-append, filter_map-append, All-append, All-from_get_or}
use Rattle.std.proofs.lemmas.List.Sums.{sum_by-cons, sum_by-append, sum_by-take-le}
use Rattle.pp_model.specs.declared.profile.Sample.{Sample}
use Rattle.pp_model.specs.Conditions.{RefersTo, IsSampleOf}
use Rattle.pp_model.specs.declared.profile.Profile.{Profile}
use Rattle.pp_model.specs.Rules.{NoRuleFails}
use Rattle.pp_model.specs.Values.{no_sample}
use Rattle.pp_model.proofs.RuleLemmas.{refers_from_valid, sample_at}
use Rattle.pp_steal.specs.Running.{AreOutcomes}
use Rattle.pp_count.specs.declared.scope.Scope.{Scope}
use Rattle.pp_count.specs.declared.tally.Tally.{Tally}
use Rattle.pp_count.specs.declared.part.KeySum.{KeySum}
use Rattle.pp_count.specs.declared.part.Part.{Part}
use Rattle.pp_count.specs.declared.counting.Counting.{Counting}
use Rattle.pp_steal.specs.declared.piece.TheConstants.{PIECE}
use Rattle.pp_count.specs.declared.sofar.Sofar.{Sofar}
use Rattle.pp_count.specs.Matches.{no_matches, either}
use Rattle.pp_count.specs.Column.{selected}
use Rattle.pp_count.specs.Sums.{Seen, weighed, renamed, has, leads, occurs}
use Rattle.pp_count.specs.Seeing.{filtered_stack, seen}
use Rattle.pp_count.specs.Tally.{tally_added, tally_plus, no_tally, tally_at, IsTallyOf}
use Rattle.pp_count.specs.Totals.{totals_plus}
use Rattle.pp_steal.specs.Pieces.{piece_of}
use Rattle.pp_count.specs.Parts.{sums_of, key_sum, flat_size, cum_size, HasBelow}
use Rattle.pp_count.specs.Scope.{profile_in_scope, config_of, size_of, counted_as, samples_in_scope, AreSeen, IsPartOf, CountedTo, AreCounted}
use Rattle.pp_count.proofs.Adding.{sum_bound}
use Rattle.pp_count.proofs.Joining.{tallies_joined}
use Rattle.pp_count.specs.Rising.{AreRisingBetween}
use Rattle.pp_count.proofs.Rising.{rising_high, rising-append}
use Rattle.pp_count.proofs.Matching.{none_match, matches_more}
use Rattle.pp_count.proofs.Ranges.{name_of, numbers-append, counted_size, counted_none}
use Rattle.pp_count.proofs.Totals.{scope_totals_none, scope_totals_more}

-- the samples refer to locations of their profile
pub all_refer : (p q : Profile) → q ≡ p → NoRuleFails q → All (RefersTo p) q.sample
all_refer p q same valid =
    subst (λ (r : Profile). All (RefersTo r) q.sample) same
    (All-from_get_or (RefersTo q) q.sample no_sample (λ k h. refers_from_valid q (get_or q.sample k no_sample) valid (sample_at q k no_sample h)))

-- the samples are samples of their profile
pub all_members : (p q : Profile) → q ≡ p → All (IsSampleOf p) q.sample
all_members p q same =
    subst (λ (r : Profile). All (IsSampleOf r) q.sample) same
    (All-from_get_or (IsSampleOf q) q.sample no_sample (λ k h. sample_at q k no_sample h))

-- what is seen of two ranges
seen-append : (scope : Scope) (a b : List Sample) (s t : List (Seen ℕ)) → AreSeen scope a s → AreSeen scope b t → AreSeen scope (a ++ b) (s ++ t)
seen-append scope a b s t first second =
    let size : Seen ℕ → ℕ = λ x. nat_abs x.value in
    let all : Sample → ℕ = λ x. nat_abs (selected scope.column scope.config.now.presentation.divide_by x) in
    record {
      below = All-append (HasBelow (length scope.table.now.names)) s t first.below second.below;
      within = omega (arith, first.within, second.within, sum_by-append size s t, sum_by-append all a b);
      are = λ f holds.
          map-append (renamed (name_of scope)) s t ∙ (λ i. first.are f holds i ++ second.are f holds i)
          ∙ sym (filter_map-append (seen (profile_in_scope scope) f (config_of scope) scope.column) a b);
    }

counted-append : (scope : Scope) (s t : List (Seen ℕ)) → weighed (map (counted_as scope) (s ++ t)) ≡ weighed (map (counted_as scope) s) ++ weighed (map (counted_as scope) t)
counted-append scope s t = ap weighed (map-append (counted_as scope) s t) ∙ filter-append _ (map (counted_as scope) s) (map (counted_as scope) t)

last_added : (t : Tally) (es : List KeySum) → t.last ≤ 1 → (tally_added t es).last ≤ 1
last_added t [] below = below
last_added t (e ∷ es) below = last_added (tally_plus t e) es (omega arith)

-- with the part of the samples that follow
pub counted_more : (scope : Scope) (number m : ℕ) (a b : List Sample) (at new : ℕ → Tally) (old_kept new_kept : List ℕ) (part : Part)
    → number + length a ≡ m → CountedTo scope number 1 a at old_kept → IsPartOf scope m b part
    → new_kept ≡ old_kept ++ part.kept → ((k : ℕ) → new k ≡ tally_added (at k) (sums_of k part.sums))
    → CountedTo scope number 1 (a ++ b) new new_kept
counted_more scope number m a b at new old_kept new_kept part next before is kept each = record {
  seen = before.seen ++ is.seen;
  are = seen-append scope a b before.seen is.seen before.are is.are;
  tallies = λ k. subst (λ (r : List (Seen ℕ)). IsTallyOf r k (new k)) (sym (counted-append scope before.seen is.seen))
      (tallies_joined _ _ at new part.sums before.tallies is.sums each k);
  earlier = λ k. rw (each k) (last_added (at k) (sums_of k part.sums) (before.earlier k));
  kept = λ f holds. kept ∙ (λ i. before.kept f holds i ++ is.kept f holds i)
      ∙ sym (numbers-append (λ x. is_some (filtered_stack (profile_in_scope scope) f scope.config.now.filtering x)) number m a b next);
  rising = subst (AreRisingBetween number (number + length (a ++ b))) (sym kept)
      (rising-append number m (number + length (a ++ b)) old_kept part.kept (omega (arith, next)) (omega (arith, next, length-append a b))
      (rising_high number (number + length a) m old_kept (omega (arith, next)) before.rising)
      (rising_high m (m + length b) (number + length (a ++ b)) part.kept (omega (arith, next, length-append a b)) is.rising));
}

-- the size of an entry that may be missing
pub size_if : (f : KeySum → ℕ) (e : KeySum) (w : Bool) → sum_by f (cond w (e ∷ []) []) ≤ f e
size_if f e true = omega (arith, sum_by-cons f e [])
size_if f e false = omega arith

-- The sums of the part can be added to the tallies.
pub record HasRoom (at : ℕ → Tally) (sums : List KeySum) (k : ℕ) : Type 0 where
  pub flat : nat_abs (at k).flat + flat_size (sums_of k sums) < 2 ^ 63
  pub cum : nat_abs (at k).cum + cum_size (sums_of k sums) < 2 ^ 63

pub part_room : (scope : Scope) (number m : ℕ) (a b : List Sample) (at : ℕ → Tally) (kept : List ℕ) (part : Part)
    → size_of scope a + size_of scope b < 2 ^ 63 → CountedTo scope number 1 a at kept → IsPartOf scope m b part
    → (k : ℕ) → HasRoom at part.sums k
part_room scope number m a b at kept part fits before is k =
    let s : List (Seen ℕ) = map (counted_as scope) before.seen in
    let t : List (Seen ℕ) = map (counted_as scope) is.seen in
    record {
      flat = rw ((before.tallies k).flat, is.sums k)
          (omega (
            arith,
            fits,
            before.are.within,
            is.are.within,
            counted_size scope before.seen,
            counted_size scope is.seen,
            sum_bound (leads nat_cmp k) s,
            sum_bound (leads nat_cmp k) t,
            size_if (λ (e : KeySum). nat_abs e.flat) (key_sum (weighed t) k) (occurs nat_cmp (weighed t) k),
          ));
      cum = rw ((before.tallies k).cum, is.sums k)
          (omega (
            arith,
            fits,
            before.are.within,
            is.are.within,
            counted_size scope before.seen,
            counted_size scope is.seen,
            sum_bound (has nat_cmp k) s,
            sum_bound (has nat_cmp k) t,
            size_if (λ (e : KeySum). nat_abs e.cum) (key_sum (weighed t) k) (occurs nat_cmp (weighed t) k),
          ));
    }

-- the samples of the first `pieces` pieces
abbrev pub front_of : List Sample → ℕ → List Sample
front_of samples pieces = take (PIECE * pieces) samples

pub front_more : (samples : List Sample) (j : ℕ) → front_of samples (j + 1) ≡ front_of samples j ++ piece_of samples j
front_more samples j = ap (λ n. take n samples) (omega arith) ∙ take-add (PIECE * j) PIECE samples

-- the values of the pieces so far and of the next one are within those of all samples
pub front_within : (scope : Scope) (samples : List Sample) (j : ℕ) → size_of scope (front_of samples j) + size_of scope (piece_of samples j) ≤ size_of scope samples
front_within scope samples j =
    let f : Sample → ℕ = λ x. nat_abs (selected scope.column scope.config.now.presentation.divide_by x) in
    omega (
      arith,
      sum_by-take-le f samples (PIECE * (j + 1)),
      ap (sum_by f) (front_more samples j) ∙ sum_by-append f (front_of samples j) (piece_of samples j),
    )

-- with the part of the next piece
pub piece_more : (scope : Scope) (samples : List Sample) (j : ℕ) (sofar new : Sofar) (part : Part)
    → PIECE * j ≤ length samples → AreCounted scope (front_of samples j) sofar → IsPartOf scope (j * PIECE) (piece_of samples j) part
    → new.kept ≡ sofar.kept ++ part.kept → ((k : ℕ) → tally_at new.tallies k ≡ tally_added (tally_at sofar.tallies k) (sums_of k part.sums))
    → new.matched.slots ≡ either sofar.matched.slots part.matched.slots → new.totals ≡ totals_plus sofar.totals part.totals
    → AreCounted scope (front_of samples (j + 1)) new
piece_more scope samples j sofar new part here before is kept each matched totals =
    subst (λ (r : List Sample). AreCounted scope r new) (sym (front_more samples j))
    (record {
      counted = counted_more scope 0 (j * PIECE) (front_of samples j) (piece_of samples j) (tally_at sofar.tallies) (tally_at new.tallies) sofar.kept new.kept part
          (omega (arith, length-take-le (PIECE * j) samples here)) before.counted is kept each;
      matched = matches_more scope (front_of samples j) (piece_of samples j) sofar.matched.slots part.matched.slots new.matched.slots matched before.matched is.matched;
      totals = scope_totals_more scope (front_of samples j) (piece_of samples j) sofar.totals part.totals new.totals totals before.totals is.totals;
    })

-- The outcome of a piece of the wave is the part of its samples.
pub part_at : (job : Counting) (outcomes items : List Part) (i : ℕ) (part : Part)
    → AreOutcomes (λ piece. IsPartOf job.scope ((job.first + piece) * PIECE) (piece_of (samples_in_scope job.scope) (job.first + piece))) job.pieces outcomes
    → items ≡ outcomes → i < length items → part ≡ get_or items i part
    → IsPartOf job.scope ((job.first + i) * PIECE) (piece_of (samples_in_scope job.scope) (job.first + i)) part
part_at job outcomes items i part all same here is =
    subst (λ (p : Part). IsPartOf job.scope ((job.first + i) * PIECE) (piece_of (samples_in_scope job.scope) (job.first + i)) p)
    (sym (is ∙ ap (λ ps. get_or ps i part) same)) (all.each i part (omega (arith, here, ap length same, all.many)))

-- each piece of the wave has a sample
pub piece_starts : (job : Counting) (i : ℕ) → i < job.pieces → PIECE * (job.first + i) ≤ length (samples_in_scope job.scope)
piece_starts job i here = omega (arith, job.within)

-- The wave so far is counted, and its next piece has this part.
pub record IsNext (job : Counting) (outcomes items : List Part) (i : ℕ) (sofar : Sofar) (part : Part) : Type 0 where
  pub outcomes_are
      : AreOutcomes (λ piece. IsPartOf job.scope ((job.first + piece) * PIECE) (piece_of (samples_in_scope job.scope) (job.first + piece))) job.pieces outcomes
  pub items_are : items ≡ outcomes
  pub here : i < length items
  pub part_is : part ≡ get_or items i part
  pub before : AreCounted job.scope (front_of (samples_in_scope job.scope) (job.first + i)) sofar

-- the part can be added
pub wave_room : (job : Counting) (outcomes items : List Part) (i : ℕ) (sofar : Sofar) (part : Part)
    → IsNext job outcomes items i sofar part → (k : ℕ) → HasRoom (tally_at sofar.tallies) part.sums k
wave_room job outcomes items i sofar part next =
    let samples = samples_in_scope job.scope in
    part_room job.scope 0 ((job.first + i) * PIECE) (front_of samples (job.first + i)) (piece_of samples (job.first + i)) (tally_at sofar.tallies) sofar.kept part
    (omega (arith, job.countable.fits, front_within job.scope samples (job.first + i))) next.before.counted
    (part_at job outcomes items i part next.outcomes_are next.items_are next.here next.part_is)

-- with the part added
pub wave_more : (job : Counting) (outcomes items : List Part) (i : ℕ) (sofar new : Sofar) (part : Part)
    → IsNext job outcomes items i sofar part
    → new.kept ≡ sofar.kept ++ part.kept → ((k : ℕ) → tally_at new.tallies k ≡ tally_added (tally_at sofar.tallies k) (sums_of k part.sums))
    → new.matched.slots ≡ either sofar.matched.slots part.matched.slots → new.totals ≡ totals_plus sofar.totals part.totals
    → AreCounted job.scope (front_of (samples_in_scope job.scope) (job.first + (i + 1))) new
wave_more job outcomes items i sofar new part next kept each matched totals =
    let samples = samples_in_scope job.scope in
    subst (λ n. AreCounted job.scope (front_of samples n) new) (add_assoc job.first i 1)
    (piece_more job.scope samples (job.first + i) sofar new part
    (piece_starts job i (omega (arith, next.here, ap length next.items_are, next.outcomes_are.many)))
    next.before
    (part_at job outcomes items i part next.outcomes_are next.items_are next.here next.part_is)
    kept each matched totals)

-- before the first piece nothing is counted
pub none_counted : (scope : Scope) (m : ℕ) (samples : List Sample) (sofar : Sofar) → m ≡ 0 → ((k : ℕ) → tally_at sofar.tallies k ≡ no_tally) → sofar.kept ≡ []
    → sofar.matched.slots ≡ no_matches → sofar.totals ≡ record { all = 0; base = 0 } → AreCounted scope (front_of samples m) sofar
none_counted scope m samples sofar first none empty matched totals =
    let start = counted_none scope 0 (tally_at sofar.tallies) sofar.kept none empty in
    subst (λ (n : ℕ). AreCounted scope (front_of samples n) sofar) (sym first)
    (record {
      counted = record { seen = start.seen; are = start.are; tallies = start.tallies; earlier = λ k. omega (arith, start.earlier k); kept = start.kept; rising = start.rising };
      matched = λ all f holds. matched ∙ none_match (profile_in_scope scope) f (config_of scope).filtering;
      totals = λ all f holds. scope_totals_none (profile_in_scope scope) f (config_of scope) scope.column sofar.totals totals;
    })
