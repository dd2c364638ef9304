-- The rows of an account add up.
use Rattle.std.specs.Prelude.{◌≡◌, ℕ, ◌+◌, pos, ◌+ℤ◌, false, List, [], ◌∷◌, ◌++◌, map, Option}
use Rattle.pp_model.specs.declared.config.Config.{Config}
use Rattle.pp_model.specs.declared.profile.Profile.{Profile}
use Rattle.pp_model.specs.declared.verdicts.Slot.{Slot}
use Rattle.pp_model.specs.declared.filtering.Filtering.{Filtering}
use Rattle.pp_model.specs.Finders.{Finders}
use Rattle.pp_count.specs.Counts.{filtered_samples}
use Rattle.pp_graph.specs.Trim.{all_report_keys, report_keys}
use Rattle.pp_account.specs.declared.portion.Portion.{Portion}
use Rattle.pp_account.specs.Account.{dropping}
use Rattle.pp_account.specs.First.{is_in_force}
use Rattle.pp_account.specs.Nodes.{keys_portion, light_keys, keys_beyond}
use Rattle.pp_account.specs.Portions.{portion_of, dropped_samples, bare_samples}

-- what portions come to together
abbrev pub portion_sum : List Portion → Portion
portion_sum [] = record { count = 0; value = pos 0 }
portion_sum (portion ∷ portions) = record {
  count = portion.count + (portion_sum portions).count;
  value = portion.value +ℤ (portion_sum portions).value;
}

-- The samples that each filter is the first to drop, and those that are left, add up to all samples.
abbrev pub SamplesAddUp : Type 0
SamplesAddUp =
    (p : Profile) (f : Finders) (config : Config) (column : Option ℕ)
    → portion_of config.presentation column p.sample
    ≡ portion_sum (map (λ slot. portion_of config.presentation column
    (dropped_samples p f config.filtering slot p.sample)) dropping
    ++ portion_of config.presentation column (filtered_samples p f config.filtering p.sample) ∷ [])

-- A filter that isn't in force, which has no row, drops no sample.
abbrev pub OthersDropNone : Type 0
OthersDropNone =
    (p : Profile) (f : Finders) (filtering : Filtering) (slot : Slot)
    → is_in_force f filtering slot ≡ false
    → dropped_samples p f filtering slot p.sample ≡ []

-- The rows of the keys that are too light, past the limit and shown add up to that of all keys.
abbrev pub NodesAddUp : Type 0
NodesAddUp =
    (p : Profile) (f : Finders) (config : Config) (column : Option ℕ) (limit : ℕ)
    → keys_portion p f config column (all_report_keys p f config column)
    ≡ portion_sum (keys_portion p f config column (light_keys p f config column)
    ∷ keys_portion p f config column (keys_beyond p f config column limit)
    ∷ keys_portion p f config column (report_keys p f config column limit) ∷ [])

-- The flats of all keys, and the values of the samples left without a frame, add up to the values of all that are left.
abbrev pub ValuesAddUp : Type 0
ValuesAddUp =
    (p : Profile) (f : Finders) (config : Config) (column : Option ℕ)
    → (portion_of config.presentation column (filtered_samples p f config.filtering p.sample)).value
    ≡ (keys_portion p f config column (all_report_keys p f config column)).value
    +ℤ (portion_of config.presentation column (bare_samples p f config column p.sample)).value
