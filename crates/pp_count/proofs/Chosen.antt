-- The samples that a scope counts: all, or those with chosen numbers.
use Rattle.std.proofs.Common.{◌≡◌, ℕ, ◌+◌, ◌<◌, ◌≤◌, ◌^◌, nat_abs, List, length, drop, get_or, map, All, Option, Some, None, MatchOption, refl, sym, ap, ◌∙◌, subst, arith, length-drop}
use Rattle.std.specs.Prelude.{⊤}
use Rattle.std.specs.List.{slice_get}
use Rattle.std.specs.Option.{option_map_or}
use Rattle.std.proofs.lemmas.Option.{slice_get_read, slice_get-get_or, get_or_from_slice_get}
use Rattle.std.proofs.lemmas.List.{get_or-drop, get_or-map}
use Rattle.std.proofs.lemmas.List.Sums.{sum_by-take-drop}
use Rattle.pp_model.specs.declared.profile.Sample.{Sample}
use Rattle.pp_model.specs.declared.profile.Profile.{Profile}
use Rattle.pp_model.specs.Conditions.{RefersTo, IsSampleOf}
use Rattle.pp_model.specs.Rules.{NoRuleFails}
use Rattle.pp_model.specs.Values.{no_sample}
use Rattle.pp_count.specs.declared.scope.Scope.{Scope}
use Rattle.pp_count.specs.Column.{selected}
use Rattle.pp_count.specs.Counts.{samples_at}
use Rattle.pp_count.specs.Rising.{AreRisingBetween}
use Rattle.pp_count.specs.Scope.{profile_in_scope, chosen_of, samples_in_scope, size_of, IsSoundScope}
use Rattle.pp_count.proofs.Pieces.{all_refer, all_members}
use Rattle.pp_count.proofs.Rising.{rising_below, samples_are, samples_length}

-- where none are chosen, all samples are counted
pub all_samples : (scope : Scope) → chosen_of scope ≡ None → samples_in_scope scope ≡ (profile_in_scope scope).sample
all_samples scope none = ap (λ o. option_map_or (samples_at (profile_in_scope scope)) o (profile_in_scope scope).sample) none

module _ (scope : Scope) (ns : List ℕ) (is : chosen_of scope ≡ Some ns) (sound : IsSoundScope scope) where
  chosen_samples : samples_in_scope scope ≡ samples_at (profile_in_scope scope) ns
  chosen_samples = ap (λ o. option_map_or (samples_at (profile_in_scope scope)) o (profile_in_scope scope).sample) is

  rising : AreRisingBetween 0 (length (profile_in_scope scope).sample) ns
  rising = subst (λ (o : Option (List ℕ)). MatchOption o ⊤ (AreRisingBetween 0 (length (profile_in_scope scope).sample))) is sound.chosen

  below : All (λ n. n < length (profile_in_scope scope).sample) ns
  below = rising_below 0 (length (profile_in_scope scope).sample) ns rising

  pub chosen_length : length (samples_in_scope scope) ≡ length ns
  chosen_length = ap length chosen_samples ∙ samples_length (profile_in_scope scope) ns below

  -- each of the numbers is that of a sample
  pub chosen_below : (place : ℕ) → place < length (samples_in_scope scope) → get_or ns place 0 < length (profile_in_scope scope).sample
  chosen_below place here = below place 0 (omega (arith, here, chosen_length))

  -- the sample at the place is the one with the number there
  pub chosen_at : (place : ℕ) (s : Sample) → place < length (samples_in_scope scope) → slice_get (profile_in_scope scope).sample (get_or ns place 0) ≡ Some s
      → slice_get (samples_in_scope scope) place ≡ Some s
  chosen_at place s here found =
      let inside : place < length ns = omega (arith, here, chosen_length) in
      ap (λ (xs : List Sample). slice_get xs place) (chosen_samples ∙ samples_are (profile_in_scope scope) ns below)
      ∙ slice_get-get_or (map (λ n. get_or (profile_in_scope scope).sample n no_sample) ns) place no_sample (omega (arith, here, ap length (chosen_samples ∙ samples_are (profile_in_scope scope) ns below)))
      ∙ ap Some (get_or-map (λ n. get_or (profile_in_scope scope).sample n no_sample) ns place 0 no_sample inside
      ∙ get_or_from_slice_get (profile_in_scope scope).sample (get_or ns place 0) s no_sample found)

-- A sample that was read from the profile.
pub record IsRead (p : Profile) (n : ℕ) (s : Sample) : Type 0 where
  pub found : slice_get p.sample n ≡ Some s
  pub member : IsSampleOf p s
  pub refers : RefersTo p s

pub is_read : (p q : Profile) (all : List Sample) (n : ℕ) (s : Sample) → all ≡ q.sample → q ≡ p → NoRuleFails q → n < length all → s ≡ get_or all n s → IsRead p n s
is_read p q all n s lent same valid here is =
    let inside : n < length q.sample = omega (arith, here, ap length lent) in
    let at : s ≡ get_or q.sample n s = is ∙ ap (λ (xs : List Sample). get_or xs n s) lent in
    record {
      found = subst (λ (r : Profile). slice_get r.sample n ≡ Some s) same (slice_get_read q.sample (length q.sample) n s refl inside at);
      member = subst (IsSampleOf p) (sym at) (all_members p q same n s inside);
      refers = subst (RefersTo p) (sym at) (all_refer p q same valid n s inside);
    }

-- a sample past others
pub dropped_at : (all : List Sample) (first i : ℕ) (s : Sample) → slice_get all (first + i) ≡ Some s → s ≡ get_or (drop first all) i s
dropped_at all first i s found = sym (get_or-drop first all i s ∙ get_or_from_slice_get all (first + i) s s found)

pub dropped_within : (all : List Sample) (first count i : ℕ) → first + count ≤ length all → i < count → i < length (drop first all)
dropped_within all first count i within here = omega (arith, within, here, length-drop first all)

-- what is left is as small as the whole
pub dropped_size : (scope : Scope) (all : List Sample) (first : ℕ) → size_of scope all < 2 ^ 63 → size_of scope (drop first all) < 2 ^ 63
dropped_size scope all first fits =
    omega (arith, fits, sum_by-take-drop (λ (x : Sample). nat_abs (selected scope.column scope.config.now.presentation.divide_by x)) all first)
