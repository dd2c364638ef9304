-- How sums grow with one more sample.
use Rattle.std.proofs.Common.{◌≡◌, ℕ, ◌+◌, ◌<◌, ◌≤◌, ◌^◌, true, false, nat_abs, List, [], ◌∷◌, ◌++◌, length, take, get_or, ℤ, All, refl, sym, ap, ◌∙◌, subst, arith}
use Rattle.std.proofs.lemmas.List.{take_more}
use Rattle.std.proofs.lemmas.List.Sums.{sum_by_more_le}
use Rattle.pp_model.specs.declared.profile.Sample.{Sample}
use Rattle.pp_count.specs.Column.{selected}
use Rattle.pp_count.specs.declared.tallies.Tallies.{Tallies}
use Rattle.pp_count.specs.declared.tally.Tally.{Tally}
use Rattle.pp_count.specs.Scope.{samples_in_scope, size_of}
use Rattle.pp_count.specs.Tally.{no_tally, tally_at, IsTallyOf}
use Rattle.pp_count.proofs.Ranges.{IsSeen, by_numbers, seen_more, seen_same}
use Rattle.pp_source.specs.declared.found.FoundKeys.{FoundKeys}
use Rattle.pp_source.specs.declared.walk.WalkSums.{WalkSums}
use Rattle.pp_source.specs.declared.walk.Walk.{Walk}
use Rattle.pp_source.specs.Ledgers.{AreAdded, HasWalkedTo}
use Rattle.pp_source.specs.Tally.{AddsKeys, IsReadyFor}
use Rattle.pp_count.specs.Sums.{absolute}
use Rattle.pp_source.proofs.Tallying.{added_later, added_more, added_ready}

-- tallies to which nothing was added
pub none_added : (found : FoundKeys) (tallies : Tallies) → ((k : ℕ) → tally_at tallies k ≡ no_tally) → AreAdded found 0 [] tallies
none_added found tallies none = record {
  each = λ k. subst (λ (t : Tally). IsTallyOf [] k t) (sym (none k)) (record { flat = refl; cum = refl; occurs = refl });
  earlier = λ k. rw (none k) (omega arith);
}

module _ (walk : Walk) (i : ℕ) (s : Sample) (keys : List ℕ) (old : WalkSums) (here : i < length (samples_in_scope walk.scope)) (is : s ≡ get_or (samples_in_scope walk.scope) i s)
    (so_far : HasWalkedTo walk i (take i (samples_in_scope walk.scope)) old) where
  one_more : take i (samples_in_scope walk.scope) ++ s ∷ [] ≡ take (i + 1) (samples_in_scope walk.scope)
  one_more = ap (λ x. take i (samples_in_scope walk.scope) ++ x ∷ []) is ∙ sym (take_more (samples_in_scope walk.scope) i s here)

  -- a sample that is dropped
  pub walked_same : IsSeen walk.scope s false keys → HasWalkedTo walk (i + 1) (take (i + 1) (samples_in_scope walk.scope)) old
  walked_same seen = subst (λ ss. HasWalkedTo walk (i + 1) ss old) one_more (record {
    seen = so_far.seen;
    are = seen_same walk.scope (take i (samples_in_scope walk.scope)) so_far.seen s keys seen so_far.are;
    lines = added_later walk.lines.now i so_far.seen old.lines so_far.lines;
    routines = added_later walk.routines.now i so_far.seen old.routines so_far.routines;
  })

  -- a sample that is kept
  pub walked_more : (new : WalkSums) → IsSeen walk.scope s true keys → All (λ k. k < length walk.scope.table.now.names) keys
      → AddsKeys walk.lines.now.numbers.items (selected walk.scope.column walk.scope.config.now.presentation.divide_by s) (i + 1) keys old.lines new.lines
      → AddsKeys walk.routines.now.numbers.items (selected walk.scope.column walk.scope.config.now.presentation.divide_by s) (i + 1) keys old.routines new.routines
      → HasWalkedTo walk (i + 1) (take (i + 1) (samples_in_scope walk.scope)) new
  walked_more new seen below lines routines = subst (λ ss. HasWalkedTo walk (i + 1) ss new) one_more (record {
    seen = so_far.seen ++ by_numbers walk.scope s keys ∷ [];
    are = seen_more walk.scope (take i (samples_in_scope walk.scope)) so_far.seen s keys seen below so_far.are;
    lines = added_more walk.lines.now i so_far.seen old.lines so_far.lines (by_numbers walk.scope s keys) new.lines lines;
    routines = added_more walk.routines.now i so_far.seen old.routines so_far.routines (by_numbers walk.scope s keys) new.routines routines;
  })

  abbrev value : ℤ
  value = selected walk.scope.column walk.scope.config.now.presentation.divide_by s

  fits : size_of walk.scope (samples_in_scope walk.scope) < 2 ^ 63 → absolute so_far.seen + nat_abs value < 2 ^ 63
  fits small =
      let size : Sample → ℕ = λ x. nat_abs (selected walk.scope.column walk.scope.config.now.presentation.divide_by x) in
      let all : List Sample = samples_in_scope walk.scope in
      let left : size_of walk.scope (take i all) + size s ≤ size_of walk.scope all =
      subst (λ (x : Sample). size_of walk.scope (take i all) + size x ≤ size_of walk.scope all) (sym is) (sum_by_more_le size all i s here) in
      omega (arith, small, left, so_far.are.within)

  -- its value can be added
  pub lines_ready : size_of walk.scope (samples_in_scope walk.scope) < 2 ^ 63 → IsReadyFor value (i + 1) old.lines
  lines_ready small = added_ready walk.lines.now i so_far.seen old.lines so_far.lines value (fits small)

  pub routines_ready : size_of walk.scope (samples_in_scope walk.scope) < 2 ^ 63 → IsReadyFor value (i + 1) old.routines
  routines_ready small = added_ready walk.routines.now i so_far.seen old.routines so_far.routines value (fits small)
