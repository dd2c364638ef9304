-- Labels that are remembered with the places of their tags. No public clause cites it.
use Rattle.std.specs.Prelude.{◌≡◌, ℕ, List, Option, Some, None, slice_index_or, slice_set, replicate}
use Rattle.pp_model.specs.declared.profile.Label.{Label}
use Rattle.pp_samples.specs.declared.key_table.TagPlace.{TagPlace}
use Rattle.pp_samples.specs.declared.recent.PlacedLabel.{PlacedLabel}

-- no slot has a label
pub record AreBlank (slots : List (Option PlacedLabel)) : Type 0 where
  pub count : ℕ
  pub is : slots ≡ replicate count None

-- a slot has the label with this place
pub record Holds (slots : List (Option PlacedLabel)) (label : Label) (place : TagPlace) : Type 0 where
  pub slot : ℕ
  pub is : slice_index_or slots slot None ≡ Some (record { label = label; place = place })

-- How a label is noted: a slot has it, or none does.
pub data Noted (old : List (Option PlacedLabel)) (label : Label) (place : TagPlace)
    (new : List (Option PlacedLabel)) : Type 0 where
  written : (slot : ℕ) → new ≡ slice_set old slot (Some (record { label = label; place = place })) → Noted old label place new
  passed : new ≡ old → Noted old label place new
