-- The paths of the counted samples, with one more sample or piece.
use Rattle.std.proofs.Common.{◌≡◌, ℕ, ◌+◌, ◌<◌, ◌≤◌, nat_abs, true, false, cond, not, ℤ, pos, List, [], ◌∷◌, ◌++◌, length, take, get_or, map, All, refl, sym, ap, ◌∙◌, subst, arith}
use Rattle.std.specs.Ordering.{int_eq}
use Rattle.std.proofs.lemmas.List.{map-append}
use Rattle.std.proofs.lemmas.List.Elements.{filter-append, filter_map-append, All-append, All-nil}
use Rattle.std.proofs.lemmas.List.Sums.{sum_by-append, sum_by-cons}
use Rattle.pp_model.specs.declared.profile.Sample.{Sample}
use Rattle.pp_steal.specs.Pieces.{piece_of}
use Rattle.pp_steal.specs.Running.{AreOutcomes}
use Rattle.pp_count.specs.declared.scope.Scope.{Scope}
use Rattle.pp_count.specs.Column.{selected}
use Rattle.pp_count.specs.Sums.{Seen, absolute, renamed, weighed}
use Rattle.pp_count.specs.Parts.{HasBelow}
use Rattle.pp_count.specs.Scope.{profile_in_scope, config_of, samples_in_scope, AreSeen}
use Rattle.pp_count.specs.Seeing.{seen}
use Rattle.pp_count.proofs.Pieces.{front_more, front_of}
use Rattle.pp_count.proofs.Sizes.{part_within}
use Rattle.pp_count.proofs.Ranges.{IsSeen, name_of, by_numbers, seen_more, seen_same, take_one}
use Rattle.pp_calltree.specs.declared.gathering.Gathering.{Gathering}
use Rattle.pp_calltree.specs.declared.paths.Paths.{Paths}
use Rattle.pp_calltree.specs.CallTree.{rooted}
use Rattle.pp_calltree.specs.Paths.{rooted_if, AreKeptAs, HasPaths}

-- a sample's path, unless its value is 0
rooted_one : (v : ℤ) (keys : List ℕ) → map rooted (weighed (record { value = v; keys = keys } ∷ [])) ≡ rooted_if v keys
rooted_one v keys =
    elim (int_eq v (pos 0)) as (λ b. map rooted (cond (not b) (record { value = v; keys = keys } ∷ []) []) ≡ cond b [] (rooted (record { value = v; keys = keys }) ∷ [])) [
      | true ↦ refl
      | false ↦ refl
    ]

rooted_size : (S : List (Seen ℕ)) → absolute (map rooted S) ≡ absolute S
rooted_size [] = refl
rooted_size (s ∷ S) =
    omega (arith, rooted_size S, sum_by-cons (λ (t : Seen ℕ). nat_abs t.value) s S, sum_by-cons (λ (t : Seen ℕ). nat_abs t.value) (rooted s) (map rooted S))

-- the values of paths are within those of their samples
pub paths_within : (S : List (Seen ℕ)) → absolute (map rooted (weighed S)) ≤ absolute S
paths_within S =
    omega (arith, rooted_size (weighed S), part_within (λ (s : Seen ℕ). nat_abs s.value) (λ (s : Seen ℕ). not (int_eq s.value (pos 0))) S)

-- one more sample, which the filters keep
pub paths_more : (scope : Scope) (samples : List Sample) (i : ℕ) (s : Sample) (keys : List ℕ) (old new : Paths)
    → i < length samples → s ≡ get_or samples i s → IsSeen scope s true keys → All (λ k. k < length scope.table.now.names) keys
    → ((paths : List (Seen ℕ)) → AreKeptAs old paths → AreKeptAs new (paths ++ rooted_if (selected scope.column scope.config.now.presentation.divide_by s) keys))
    → HasPaths scope (take i samples) old → HasPaths scope (take (i + 1) samples) new
paths_more scope samples i s keys old new here at_i is below more so_far =
    let one : Seen ℕ = by_numbers scope s keys in
    record {
      seen = so_far.seen ++ one ∷ [];
      are = subst (λ (r : List Sample). AreSeen scope r (so_far.seen ++ one ∷ [])) (take_one samples i s here at_i)
          (seen_more scope (take i samples) so_far.seen s keys is below so_far.are);
      stands = subst (AreKeptAs new)
          (ap (λ r. map rooted (weighed so_far.seen) ++ r) (sym (rooted_one one.value keys))
          ∙ sym (ap (map rooted) (filter-append (λ (x : Seen ℕ). not (int_eq x.value (pos 0))) so_far.seen (one ∷ []))
          ∙ map-append rooted (weighed so_far.seen) (weighed (one ∷ []))))
          (more (map rooted (weighed so_far.seen)) so_far.stands);
    }

-- one more sample, which they drop
pub paths_same : (scope : Scope) (samples : List Sample) (i : ℕ) (s : Sample) (keys : List ℕ) (old : Paths)
    → i < length samples → s ≡ get_or samples i s → IsSeen scope s false keys
    → HasPaths scope (take i samples) old → HasPaths scope (take (i + 1) samples) old
paths_same scope samples i s keys old here at_i is so_far = record {
  seen = so_far.seen;
  are = subst (λ (r : List Sample). AreSeen scope r so_far.seen) (take_one samples i s here at_i)
      (seen_same scope (take i samples) so_far.seen s keys is so_far.are);
  stands = so_far.stands;
}

-- no samples have no paths
pub no_paths : (scope : Scope) (paths : Paths) → AreKeptAs paths [] → HasPaths scope [] paths
no_paths scope paths none = record {
  seen = [];
  are = record { below = All-nil (HasBelow (length scope.table.now.names)); within = omega arith; are = λ f holds. refl };
  stands = none;
}

-- what is seen of two ranges
seen-append : (scope : Scope) (a b : List Sample) (s t : List (Seen ℕ)) → AreSeen scope a s → AreSeen scope b t → AreSeen scope (a ++ b) (s ++ t)
seen-append scope a b s t first second =
    let size : Seen ℕ → ℕ = λ x. nat_abs x.value in
    let all : Sample → ℕ = λ x. nat_abs (selected scope.column scope.config.now.presentation.divide_by x) in
    record {
      below = All-append (HasBelow (length scope.table.now.names)) s t first.below second.below;
      within = omega (arith, first.within, second.within, sum_by-append size s t, sum_by-append all a b);
      are = λ f holds.
          map-append (renamed (name_of scope)) s t ∙ (λ i. first.are f holds i ++ second.are f holds i)
          ∙ sym (filter_map-append (seen (profile_in_scope scope) f (config_of scope) scope.column) a b);
    }

-- the paths of two ranges
pub paths_joined : (scope : Scope) (a b : List Sample) (old more new : Paths)
    → ((s t : List (Seen ℕ)) → AreKeptAs old s → AreKeptAs more t → AreKeptAs new (s ++ t))
    → HasPaths scope a old → HasPaths scope b more → HasPaths scope (a ++ b) new
paths_joined scope a b old more new joins first second = record {
  seen = first.seen ++ second.seen;
  are = seen-append scope a b first.seen second.seen first.are second.are;
  stands = subst (AreKeptAs new)
      (sym (ap (map rooted) (filter-append (λ (x : Seen ℕ). not (int_eq x.value (pos 0))) first.seen second.seen) ∙ map-append rooted (weighed first.seen) (weighed second.seen)))
      (joins (map rooted (weighed first.seen)) (map rooted (weighed second.seen)) first.stands second.stands);
}

-- with the paths of the next piece of a wave
pub piece_more : (job : Gathering) (outcomes items : List Paths) (i : ℕ) (old part new : Paths)
    → AreOutcomes (λ piece paths. HasPaths job.scope (piece_of (samples_in_scope job.scope) (job.first + piece)) paths) job.pieces outcomes
    → items ≡ outcomes → i < length items → part ≡ get_or items i part
    → ((s t : List (Seen ℕ)) → AreKeptAs old s → AreKeptAs part t → AreKeptAs new (s ++ t))
    → HasPaths job.scope (front_of (samples_in_scope job.scope) (job.first + i)) old
    → HasPaths job.scope (front_of (samples_in_scope job.scope) (job.first + (i + 1))) new
piece_more job outcomes items i old part new are same here is joins before =
    let all : List Sample = samples_in_scope job.scope in
    let own : HasPaths job.scope (piece_of all (job.first + i)) part =
    subst (HasPaths job.scope (piece_of all (job.first + i))) (sym (is ∙ ap (λ (xs : List Paths). get_or xs i part) same))
    (are.each i part (omega (arith, here, ap length same, are.many))) in
    subst (λ (r : List Sample). HasPaths job.scope r new) (sym (front_more all (job.first + i)) ∙ ap (front_of all) (omega arith))
    (paths_joined job.scope (front_of all (job.first + i)) (piece_of all (job.first + i)) old part new joins before own)
