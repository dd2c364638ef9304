-- Focus and ignore of one pattern part the whole.
use Rattle.std.proofs.Common.{◌≡◌, ℕ, Bool, true, false, cond, not, ◌&&◌, ◌+ℤ◌, List, [], ◌∷◌, ◌++◌, Option, Some, None, option_map, ◌⊎◌, inl, inr, refl, sym, subst, ◌∙◌}
use Rattle.std.specs.List.{cons_option, list_any}
use Rattle.std.specs.List.Sorted.{IsPermutation}
use Rattle.std.proofs.lemmas.List.Sorted.{IsPermutation-refl, IsPermutation-cons, IsPermutation-middle, IsPermutation-sym, IsPermutation-trans}
use Rattle.pp_model.specs.declared.config.Config.{Config}
use Rattle.pp_model.specs.declared.frame.Frame.{Frame}
use Rattle.pp_model.specs.declared.profile.Profile.{Profile}
use Rattle.pp_model.specs.declared.profile.Sample.{Sample}
use Rattle.pp_model.specs.Finders.{Finder, Finders}
use Rattle.pp_model.specs.Frames.{stack_of}
use Rattle.pp_model.specs.FrameTexts.{Written, written}
use Rattle.pp_stack.specs.Filters.{finds_frame, load_pruned, left_of_cut}
use Rattle.pp_grain.specs.Keys.{key_cmp}
use Rattle.pp_count.specs.Sums.{Seen, weighed, sum_where, has, leads}
use Rattle.pp_count.specs.EdgeSums.{has_edge}
use Rattle.pp_count.specs.Seeing.{passes_tags, seen_with, seen, seen_samples}
use Rattle.pp_laws.specs.Parts.{focused, ignoring, undivided, PatternsPart}
use Rattle.pp_laws.proofs.Sampling.{sum_where-weighed, sum_where_permuted, sum_where-append}

-- one of the first two is the third, and the other nothing
abbrev IsOneOf : {X : Type 0} → Option X → Option X → Option X → Type 0
IsOneOf a b c = ((a ≡ c) × (b ≡ None)) ⊎ ((a ≡ None) × (b ≡ c))

-- what passes both tests, or the second where the first is turned round
one_of : {X Y : Type 0} (g : X → Y) (passes finds : Bool) (left : Option X)
    → IsOneOf (option_map g (cond passes (cond finds left None) None))
    (option_map g (cond passes (cond (not finds && true) left None) None))
    (option_map g (cond passes left None))
one_of g true true left = inl (refl, refl)
one_of g true false left = inr (refl, refl)
one_of g false finds left = inl (refl, refl)

-- a list item by item in two others
parted : {X : Type 0} (a b c : Option X) (xs ys zs : List X) → IsOneOf a b c → IsPermutation zs (xs ++ ys)
    → IsPermutation (cons_option c zs) (cons_option a xs ++ cons_option b ys)
parted a b c xs ys zs (inl is) moved =
    subst (λ r. IsPermutation (cons_option c zs) r) (λ i. cons_option (sym is.0 i) xs ++ cons_option (sym is.1 i) ys)
    (elim c as (λ o. IsPermutation (cons_option o zs) (cons_option o xs ++ ys)) [
      | None ↦ moved
      | Some x ↦ IsPermutation-cons x zs (xs ++ ys) moved
    ])
parted a b c xs ys zs (inr is) moved =
    subst (λ r. IsPermutation (cons_option c zs) r) (λ i. cons_option (sym is.0 i) xs ++ cons_option (sym is.1 i) ys)
    (elim c as (λ o. IsPermutation (cons_option o zs) (xs ++ cons_option o ys)) [
      | None ↦ moved
      | Some x ↦ IsPermutation-trans (x ∷ zs) (x ∷ (xs ++ ys)) (xs ++ x ∷ ys)
          (IsPermutation-cons x zs (xs ++ ys) moved)
          (IsPermutation-sym (xs ++ x ∷ ys) (x ∷ (xs ++ ys)) (IsPermutation-middle xs x ys))
    ])

module _ (find : Finder) (p : Profile) (f : Finders) (config : Config) (column : Option ℕ) where
  -- a sample is seen by one of both, as it is seen without either
  seen_once : (s : Sample) → IsOneOf (seen p (focused find f) config column s) (seen p (ignoring find f) config column s) (seen p (undivided f) config column s)
  seen_once s =
      let stack : List Frame = load_pruned (written p) f (stack_of p s) in
      one_of (seen_with p config column s) (passes_tags p f config.filtering s)
      (list_any (λ x. finds_frame find (written p x)) stack) (left_of_cut (written p) f stack)

  samples_part : (ss : List Sample) → IsPermutation (seen_samples p (undivided f) config column ss)
      (seen_samples p (focused find f) config column ss ++ seen_samples p (ignoring find f) config column ss)
  samples_part [] = IsPermutation-refl []
  samples_part (s ∷ ss) = parted
      (seen p (focused find f) config column s) (seen p (ignoring find f) config column s) (seen p (undivided f) config column s)
      (seen_samples p (focused find f) config column ss) (seen_samples p (ignoring find f) config column ss) (seen_samples p (undivided f) config column ss)
      (seen_once s) (samples_part ss)

  sums_part : (test : List Written → Bool) → sum_where test (weighed (seen_samples p (undivided f) config column p.sample))
      ≡ sum_where test (weighed (seen_samples p (focused find f) config column p.sample)) +ℤ sum_where test (weighed (seen_samples p (ignoring find f) config column p.sample))
  sums_part test =
      let all : List (Seen Written) = seen_samples p (undivided f) config column p.sample in
      let found : List (Seen Written) = seen_samples p (focused find f) config column p.sample in
      let others : List (Seen Written) = seen_samples p (ignoring find f) config column p.sample in
      sum_where-weighed test all ∙ sym (sum_where_permuted test all (found ++ others) (samples_part p.sample)) ∙ sum_where-append test found others
      ∙ (λ i. sym (sum_where-weighed test found) i +ℤ sym (sum_where-weighed test others) i)

pub patterns_part : PatternsPart
patterns_part find p f config column = record {
  samples = samples_part find p f config column p.sample;
  flat = λ k. sums_part find p f config column (leads key_cmp k);
  cum = λ k. sums_part find p f config column (has key_cmp k);
  edge = λ kept a b. sums_part find p f config column (has_edge key_cmp kept a b);
}
