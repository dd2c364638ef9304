-- Profiles that merge in steps whatever the groups.
use Rattle.std.proofs.Common.{◌≡◌, ℕ, List, ◌∷◌}
use Rattle.pp_base.proofs.Lists.{all_by}
use Rattle.pp_share.proofs.NumberedLemmas.{all_both, all_parts}
use Rattle.pp_steps.specs.Premises.{GroupsAddUp, MergeInAnyGroups, MergeInSteps}
use Rattle.pp_steps.specs.Steps.{Group, sources_of, all_sources, in_steps, at_once}
use Rattle.pp_steps.proofs.KeptMappings.{groups_lose_none}
use Rattle.pp_steps.proofs.NamedMappings.{kept_are_first}
use Rattle.pp_steps.proofs.SteppedMerges.{steps_are_one}
use Rattle.pp_steps.proofs.Weights.{groups_keep}

module _ (columns : ℕ) (g : Group) (groups : List Group) (any : MergeInAnyGroups columns (all_sources (g ∷ groups))) where
  pub up : GroupsAddUp columns (g ∷ groups)
  up = record {
    values = all_by _ _ (λ x is. record { types = is.0.0; values = is.1 }) (g ∷ groups)
        (all_both _ _ (g ∷ groups) (all_parts _ sources_of (g ∷ groups) any.types) (all_parts _ sources_of (g ∷ groups) any.values));
    starts = any.starts;
  }

  -- they merge in these
  pub any_merge : MergeInSteps columns g groups
  any_merge =
      let kept = groups_keep columns (g ∷ groups) up any.weights in
      record {
        up = up;
        samples = kept;
        durations = any.durations;
        mappings = kept_are_first columns g groups up (groups_lose_none columns (g ∷ groups) up kept any.named);
      }

  pub any_groups : in_steps g groups ≡ at_once g groups
  any_groups = steps_are_one columns g groups up any_merge
