-- The samples with the numbers that the filters leave.
use Rattle.std.proofs.Common.{◌≡◌, ℕ, Bool, true, false, cond, List, [], ◌∷◌, ◌++◌, Option, Some, None, is_some, refl, sym, ap, ◌∙◌}
use Rattle.std.specs.List.{flat_map}
use Rattle.std.specs.Option.{option_map_or}
use Rattle.pp_model.specs.declared.frame.Frame.{Frame}
use Rattle.pp_model.specs.declared.profile.Sample.{Sample}
use Rattle.pp_model.specs.declared.profile.Profile.{Profile}
use Rattle.pp_model.specs.declared.filtering.Filtering.{Filtering}
use Rattle.pp_model.specs.Finders.{Finders}
use Rattle.pp_stack.specs.Filters.{frames_of_sample}
use Rattle.pp_count.specs.Counts.{samples_at, filtered_samples}
use Rattle.pp_count.specs.Seeing.{filtered_from, filtered_stack, passes_tags}
use Rattle.pp_count.proofs.Kept.{kept_samples}

-- what the filters leave of a sample is what the stack filters leave, where the tag filters pass it
abbrev left : Bool → Option (List Frame) → Option (List Frame)
left passes stack = cond passes stack None

-- what is made of the samples that the filters leave, where the others make nothing
module _ {A : Type 0} (p : Profile) (f : Finders) (filtering : Filtering) (make : Sample → List Frame → List A) where
  one_left : (s : Sample) (passes : Bool) (stack : Option (List Frame)) (xs : List Sample) (rest : List A)
      → rest ≡ flat_map (λ x. option_map_or (make x) (frames_of_sample p f x) []) xs
      → frames_of_sample p f s ≡ stack
      → option_map_or (make s) (left passes stack) [] ++ rest
      ≡ flat_map (λ x. option_map_or (make x) (frames_of_sample p f x) []) (cond (is_some (left passes stack)) (s ∷ xs) xs)
  one_left s false stack xs rest same is = same
  one_left s true None xs rest same is = same
  one_left s true (Some frames) xs rest same is =
      ap (λ r. make s frames ++ r) same
      ∙ ap (λ (o : Option (List Frame)). option_map_or (make s) o [] ++ flat_map (λ x. option_map_or (make x) (frames_of_sample p f x) []) xs) (sym is)

  made_from : (xs : List Sample)
      → flat_map (λ s. option_map_or (make s) (filtered_stack p f filtering s) []) xs
      ≡ flat_map (λ s. option_map_or (make s) (frames_of_sample p f s) []) (filtered_samples p f filtering xs)
  made_from [] = refl
  made_from (s ∷ xs) = one_left s (passes_tags p f filtering s) (frames_of_sample p f s) (filtered_samples p f filtering xs) _ (made_from xs) refl

  -- What is made of all samples by what the filters leave is made of those with these numbers by what the stack filters
  -- leave.
  pub made_of_kept : (kept : List ℕ) → kept ≡ filtered_from p f filtering 0 p.sample
      → flat_map (λ s. option_map_or (make s) (filtered_stack p f filtering s) []) p.sample
      ≡ flat_map (λ s. option_map_or (make s) (frames_of_sample p f s) []) (samples_at p kept)
  made_of_kept kept is =
      made_from p.sample ∙ ap (flat_map (λ s. option_map_or (make s) (frames_of_sample p f s) [])) (sym (kept_samples p f filtering kept is))
