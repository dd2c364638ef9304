-- Sums over a base's samples, and over all.
use Rattle.std.proofs.Common.{◌≡◌, ℕ, ◌≤◌, Bool, true, false, cond, not, ℤ, pos, ◌+ℤ◌, ◌-ℤ◌, nat_abs, List, [], ◌∷◌, map, Option, Some, None, option_map, refl, ap, ◌∙◌, arith}
use Rattle.std.specs.List.{filter, sum_by, cons_option}
use Rattle.std.specs.Option.{is_some}
use Rattle.std.specs.Ordering.{int_eq}
use Rattle.std.proofs.lemmas.Int.{ints}
use Rattle.std.proofs.lemmas.List.Sums.{sum_by-cons}
use Rattle.pp_model.specs.declared.config.Config.{Config}
use Rattle.pp_model.specs.declared.frame.Frame.{Frame}
use Rattle.pp_model.specs.declared.profile.Sample.{Sample}
use Rattle.pp_model.specs.declared.profile.Profile.{Profile}
use Rattle.pp_model.specs.Finders.{Finders}
use Rattle.pp_model.specs.FrameTexts.{Written}
use Rattle.pp_count.specs.Column.{selected}
use Rattle.pp_count.specs.Counts.{filtered_samples}
use Rattle.pp_count.specs.Seeing.{filtered_stack, seen, seen_with, seen_samples}
use Rattle.pp_count.specs.Sums.{Seen, sum_where, weighed}
use Rattle.pp_graph.specs.Trimmed.{int_sum}
use Rattle.pp_count.specs.Base.{selected_all}

-- what samples add up to, each by what it adds
abbrev pub sum_over : (Sample → ℤ) → List Sample → ℤ
sum_over g ss = int_sum (map g ss)

module _ (g : Sample → ℤ) (size : Sample → ℕ) (within : (s : Sample) → nat_abs (g s) ≤ size s) (q : Sample → Bool) where
  -- the sum over those that pass is within the sizes of all
  pub passing_bound : (ss : List Sample) → nat_abs (sum_over g (filter q ss)) ≤ sum_by size ss
  passing_bound [] = omega arith
  passing_bound (s ∷ ss) =
      let here : nat_abs (g s) ≤ size s = within s in
      let rest : nat_abs (sum_over g (filter q ss)) ≤ sum_by size ss = passing_bound ss in
      elim (q s) as (λ b. nat_abs (sum_over g (cond b (s ∷ filter q ss) (filter q ss))) ≤ sum_by size (s ∷ ss)) [
        | true ↦ omega (arith, ints, here, rest, sum_by-cons size s ss)
        | false ↦ omega (arith, rest, sum_by-cons size s ss)
      ]

  -- and so is the sum over the others
  pub others_bound : (ss : List Sample) → nat_abs (sum_over g ss -ℤ sum_over g (filter q ss)) ≤ sum_by size ss
  others_bound [] = omega (arith, ints)
  others_bound (s ∷ ss) =
      let here : nat_abs (g s) ≤ size s = within s in
      let rest : nat_abs (sum_over g ss -ℤ sum_over g (filter q ss)) ≤ sum_by size ss = others_bound ss in
      elim (q s) as (λ b. nat_abs ((g s +ℤ sum_over g ss) -ℤ sum_over g (cond b (s ∷ filter q ss) (filter q ss))) ≤ sum_by size (s ∷ ss)) [
        | true ↦ omega (arith, ints, rest, sum_by-cons size s ss)
        | false ↦ omega (arith, ints, here, rest, sum_by-cons size s ss)
      ]

module _ (t : List Written → Bool) where
  -- what a sample adds to the sum of those whose keys pass
  abbrev adds : Option (Seen Written) → ℤ
  adds o = sum_where t (weighed (cons_option o []))

  adds_first : (o : Option (Seen Written)) (ss : List (Seen Written)) → sum_where t (weighed (cons_option o ss)) ≡ adds o +ℤ sum_where t (weighed ss)
  adds_first None ss = omega (arith, ints)
  adds_first (Some s) ss =
      elim (not (int_eq s.value (pos 0))) as (λ b. sum_where t (cond b (s ∷ weighed ss) (weighed ss)) ≡ sum_where t (cond b (s ∷ []) []) +ℤ sum_where t (weighed ss)) [
        | true ↦ omega (arith, ints)
        | false ↦ omega (arith, ints)
      ]

  adds_within : (s : Seen Written) → nat_abs (adds (Some s)) ≤ nat_abs s.value
  adds_within s =
      elim (not (int_eq s.value (pos 0))) as (λ b. nat_abs (sum_where t (cond b (s ∷ []) [])) ≤ nat_abs s.value) [
        | true ↦ elim (t s.keys) as (λ b. nat_abs (cond b s.value (pos 0) +ℤ pos 0) ≤ nat_abs s.value) [
          | true ↦ omega (arith, ints)
          | false ↦ omega (arith, ints)
        ]
        | false ↦ omega arith
      ]

  module _ (p : Profile) (f : Finders) (config : Config) (column : Option ℕ) where
    -- what it adds as the report sees it
    abbrev pub seen_adds : Sample → ℤ
    seen_adds s = adds (seen p f config column s)

    pub seen_sum : (ss : List Sample) → sum_where t (weighed (seen_samples p f config column ss)) ≡ sum_over seen_adds ss
    seen_sum [] = refl
    seen_sum (s ∷ ss) =
        adds_first (seen p f config column s) (seen_samples p f config column ss) ∙ ap (λ z. seen_adds s +ℤ z) (seen_sum ss)

    pub seen_within : (s : Sample) → nat_abs (seen_adds s) ≤ nat_abs (selected column config.presentation.divide_by s)
    seen_within s =
        elim (filtered_stack p f config.filtering s) as (λ (o : Option (List Frame)). nat_abs (adds (option_map (seen_with p config column s) o)) ≤ nat_abs (selected column config.presentation.divide_by s)) [
          | None ↦ omega arith
          | Some stack ↦ adds_within (seen_with p config column s stack)
        ]

module _ (p : Profile) (f : Finders) (config : Config) (column : Option ℕ) where
  -- what a sample adds to the sum of all that the filters leave
  abbrev pub whole_adds : Sample → ℤ
  whole_adds s = cond (is_some (filtered_stack p f config.filtering s)) (selected column config.presentation.divide_by s) (pos 0)

  pub whole_sum : (ss : List Sample) → selected_all column config.presentation.divide_by (filtered_samples p f config.filtering ss) ≡ sum_over whole_adds ss
  whole_sum [] = refl
  whole_sum (s ∷ ss) =
      let rest : selected_all column config.presentation.divide_by (filtered_samples p f config.filtering ss) ≡ sum_over whole_adds ss = whole_sum ss in
      elim (is_some (filtered_stack p f config.filtering s)) as (λ b. selected_all column config.presentation.divide_by (cond b (s ∷ filtered_samples p f config.filtering ss) (filtered_samples p f config.filtering ss))
      ≡ cond b (selected column config.presentation.divide_by s) (pos 0) +ℤ sum_over whole_adds ss) [
        | true ↦ ap (λ z. selected column config.presentation.divide_by s +ℤ z) rest
        | false ↦ omega (arith, ints, rest)
      ]

  pub whole_within : (s : Sample) → nat_abs (whole_adds s) ≤ nat_abs (selected column config.presentation.divide_by s)
  whole_within s =
      elim (is_some (filtered_stack p f config.filtering s)) as (λ b. nat_abs (cond b (selected column config.presentation.divide_by s) (pos 0)) ≤ nat_abs (selected column config.presentation.divide_by s)) [
        | true ↦ omega arith
        | false ↦ omega arith
      ]
