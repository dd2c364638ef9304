-- How tallies grow with one more sample.
use Rattle.std.proofs.Common.{◌≡◌, ℕ, ◌+◌, ◌<◌, ◌^◌, ℤ, nat_abs, List, [], ◌∷◌, ◌++◌, map, refl, sym, ap, ◌∙◌, subst, arith}
use Rattle.std.specs.Ordering.{nat_cmp}
use Rattle.std.proofs.lemmas.List.{map-append}
use Rattle.std.proofs.lemmas.List.Sums.{sum_by-cons}
use Rattle.pp_count.specs.declared.tallies.Tallies.{Tallies}
use Rattle.pp_count.specs.Sums.{Seen, weighed, renamed, absolute, has, leads}
use Rattle.pp_count.specs.Tally.{tally_at, IsTallyOf}
use Rattle.pp_count.proofs.Adding.{sum_bound, added_more as more_added}
use Rattle.pp_count.proofs.CallerLemmas.{weighed-renamed}
use Rattle.pp_source.specs.declared.found.FoundKeys.{FoundKeys}
use Rattle.pp_source.specs.Ledgers.{AreAdded}
use Rattle.pp_source.specs.Tally.{AddsKeys, IsReadyFor, IsTallyBy, new_number}

absolute_renamed : (f : ℕ → ℕ) (ss : List (Seen ℕ)) → absolute (map (renamed f) ss) ≡ absolute ss
absolute_renamed f [] = refl
absolute_renamed f (s ∷ ss) =
    let size : Seen ℕ → ℕ = λ t. nat_abs t.value in
    sum_by-cons size (renamed f s) (map (renamed f) ss) ∙ ap (λ n. nat_abs s.value + n) (absolute_renamed f ss) ∙ sym (sum_by-cons size s ss)

module _ (found : FoundKeys) (turn : ℕ) (seen : List (Seen ℕ)) (old : Tallies) (added : AreAdded found turn seen old) where
  abbrev number : ℕ → ℕ
  number = new_number found.numbers.items

  -- what each number has, by the samples that weigh
  pub added_by : (k : ℕ) → IsTallyBy nat_cmp (map (renamed number) (weighed seen)) k (tally_at old k)
  added_by k =
      subst (λ (ss : List (Seen ℕ)). IsTallyBy nat_cmp ss k (tally_at old k)) (weighed-renamed number seen)
      (record { flat = (added.each k).flat; cum = (added.each k).cum; occurs = (added.each k).occurs })

  -- a turn at which nothing is added
  pub added_later : AreAdded found (turn + 1) seen old
  added_later = record { each = added.each; earlier = λ k. omega (arith, added.earlier k) }

  -- a value can be added that fits beside those so far
  pub added_ready : (v : ℤ) → absolute seen + nat_abs v < 2 ^ 63 → IsReadyFor v (turn + 1) old
  added_ready v fits =
      let all : List (Seen ℕ) = map (renamed number) seen in
      let size : absolute all ≡ absolute seen = absolute_renamed number seen in
      record {
        earlier = λ k. omega (arith, added.earlier k);
        cums = λ k. omega (arith, fits, size, sum_bound (has nat_cmp k) all, ap nat_abs (added.each k).cum);
        flats = λ k. omega (arith, fits, size, sum_bound (leads nat_cmp k) all, ap nat_abs (added.each k).flat);
      }

  -- a turn at which a sample is added
  pub added_more : (s : Seen ℕ) (new : Tallies) → AddsKeys found.numbers.items s.value (turn + 1) s.keys old new → AreAdded found (turn + 1) (seen ++ s ∷ []) new
  added_more s new adds =
      let more = more_added (map (renamed number) seen) (renamed number s) turn (tally_at old) (tally_at new) (record { tallies = added.each; earlier = added.earlier }) adds in
      record {
        each = λ k. subst (λ (ss : List (Seen ℕ)). IsTallyOf (weighed ss) k (tally_at new k)) (sym (map-append (renamed number) seen (s ∷ []))) (more.tallies k);
        earlier = more.earlier;
      }
