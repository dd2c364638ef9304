-- What is written of the samples that the filters leave.
use Rattle.std.proofs.Common.{◌≡◌, ℕ, ◌-◌, ◌≤◌, Bool, cond, List, [], ◌∷◌, ◌++◌, length, get_or, take, drop, Option, Some, None, is_some, option_map, refl, sym, ap, ◌∙◌, arith}
use Rattle.std.specs.List.{flat_map}
use Rattle.std.specs.Option.{option_map_or}
use Rattle.std.proofs.lemmas.List.{take_all}
use Rattle.pp_model.specs.declared.config.Config.{Config}
use Rattle.pp_model.specs.declared.frame.Frame.{Frame}
use Rattle.pp_model.specs.declared.profile.Sample.{Sample}
use Rattle.pp_model.specs.declared.profile.Profile.{Profile}
use Rattle.pp_model.specs.Finders.{Finders}
use Rattle.pp_model.specs.FrameTexts.{Written}
use Rattle.pp_stack.specs.Runs.{kept_if}
use Rattle.pp_units.specs.Shown.{Shown}
use Rattle.pp_count.specs.Counts.{samples_at, filtered_samples}
use Rattle.pp_count.specs.Seeing.{filtered_from, filtered_stack, keys_of_stack}
use Rattle.pp_count.proofs.Kept.{kept_samples}
use Rattle.pp_samples.specs.Traces.{trace_of, trace_of_stack}

-- the first item and the others
pub parted : {A : Type 0} (xs : List A) (d : A) → 1 ≤ length xs → get_or xs 0 d ∷ take (length xs - 1) (drop 1 xs) ≡ xs
parted [] d h = absurd (omega (arith, h))
parted (x ∷ xs) d h = ap (λ ys. x ∷ ys) (take_all (length (x ∷ xs) - 1) xs (omega arith))

module _ (p : Profile) (f : Finders) (config : Config) (column : Option ℕ) (unit : Shown) where
  -- the lines of a sample, by the keys that are left of it
  trace_by : (s : Sample) (stack : Option (List Frame)) (kept : Bool) (keys : List Written) → option_map (keys_of_stack p config.grouping) stack ≡ kept_if kept keys
      → option_map_or (λ frames. trace_of_stack p f config.presentation column unit s (keys_of_stack p config.grouping frames)) stack []
      ≡ option_map_or (trace_of_stack p f config.presentation column unit s) (kept_if kept keys) []
  trace_by s None kept keys is = ap (λ (o : Option (List Written)). option_map_or (trace_of_stack p f config.presentation column unit s) o []) is
  trace_by s (Some frames) kept keys is = ap (λ (o : Option (List Written)). option_map_or (trace_of_stack p f config.presentation column unit s) o []) is

  pub trace_seen : (s : Sample) (kept : Bool) (keys : List Written) → option_map (keys_of_stack p config.grouping) (filtered_stack p f config.filtering s) ≡ kept_if kept keys
      → trace_of p f config column unit s ≡ option_map_or (trace_of_stack p f config.presentation column unit s) (kept_if kept keys) []
  trace_seen s kept keys is = trace_by s (filtered_stack p f config.filtering s) kept keys is

  -- a sample that the filters drop has no lines
  one_traced : (s : Sample) (stack : Option (List Frame)) (xs : List Sample) (rest : List ℕ) → rest ≡ flat_map (trace_of p f config column unit) xs
      → filtered_stack p f config.filtering s ≡ stack
      → option_map_or (λ frames. trace_of_stack p f config.presentation column unit s (keys_of_stack p config.grouping frames)) stack [] ++ rest
      ≡ flat_map (trace_of p f config column unit) (cond (is_some stack) (s ∷ xs) xs)
  one_traced s None xs rest same is = same
  one_traced s (Some frames) xs rest same is =
      ap (λ (r : List ℕ). trace_of_stack p f config.presentation column unit s (keys_of_stack p config.grouping frames) ++ r) same
      ∙ ap (λ (o : Option (List Frame)). option_map_or (λ x. trace_of_stack p f config.presentation column unit s (keys_of_stack p config.grouping x)) o [] ++ flat_map (trace_of p f config column unit) xs) (sym is)

  all_traced : (xs : List Sample) → flat_map (trace_of p f config column unit) xs ≡ flat_map (trace_of p f config column unit) (filtered_samples p f config.filtering xs)
  all_traced [] = refl
  all_traced (s ∷ xs) = one_traced s (filtered_stack p f config.filtering s) (filtered_samples p f config.filtering xs) _ (all_traced xs) refl

  -- The lines of all samples are those of the samples with these numbers.
  pub traced_kept : (kept : List ℕ) → kept ≡ filtered_from p f config.filtering 0 p.sample
      → flat_map (trace_of p f config column unit) p.sample ≡ flat_map (trace_of p f config column unit) (samples_at p kept)
  traced_kept kept is = all_traced p.sample ∙ ap (flat_map (trace_of p f config column unit)) (sym (kept_samples p f config.filtering kept is))
