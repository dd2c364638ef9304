-- Portions with one sample more, as the machine adds it up. No public clause cites this file.
use Rattle.std.specs.Prelude.{◌+◌, ◌%◌, ◌^◌, ℤ, pos, ◌+ℤ◌, Bool, Option, Some, None, if◌then◌else◌}
use Rattle.std.specs.Int.{w64, int_wrap}
use Rattle.pp_model.specs.declared.verdicts.Slot.{Slot}
use Rattle.pp_model.specs.declared.verdicts.Slot.TheVariants as slots
use Rattle.pp_account.specs.declared.portion.Portion.{Portion}
use Rattle.pp_account.specs.declared.portions.Portions.{Portions as PortionsOf}

-- no samples
abbrev pub no_portion : Portion
no_portion = record { count = 0; value = pos 0 }

-- one sample more, of this value
abbrev pub portion_plus : Portion → ℤ → Portion
portion_plus portion value = record {
  count = (portion.count + 1) % 2 ^ 64;
  value = int_wrap w64 (portion.value +ℤ value);
}

-- the portion with the value, if the sample is one of these
abbrev pub portion_plus_if : Bool → Portion → ℤ → Portion
portion_plus_if does portion value = if does then portion_plus portion value else portion

-- the portions of no samples
abbrev pub no_portions : PortionsOf
no_portions = record {
  loaded = no_portion;
  ignore = no_portion;
  focus = no_portion;
  hide = no_portion;
  show = no_portion;
  show_from = no_portion;
  tagfocus = no_portion;
  tagignore = no_portion;
  left = no_portion;
  bare = no_portion;
}

-- the portions with one sample more where it ends: at the filter that is the first to drop it, or past all of them
abbrev pub with_end : Option Slot → ℤ → PortionsOf → PortionsOf
with_end None value d = record d { left = portion_plus d.left value }
with_end (Some slots.Ignore) value d = record d { ignore = portion_plus d.ignore value }
with_end (Some slots.Focus) value d = record d { focus = portion_plus d.focus value }
with_end (Some slots.Hide) value d = record d { hide = portion_plus d.hide value }
with_end (Some slots.Show) value d = record d { show = portion_plus d.show value }
with_end (Some slots.ShowFrom) value d = record d { show_from = portion_plus d.show_from value }
with_end (Some slots.TagFocus) value d = record d { tagfocus = portion_plus d.tagfocus value }
with_end (Some slots.TagIgnore) value d = record d { tagignore = portion_plus d.tagignore value }
with_end (Some _) value d = d

-- the portions with the sample's value: among all, where a filter drops it, and among those left without a frame
abbrev pub with_sample_value : Option Slot → Bool → ℤ → PortionsOf → PortionsOf
with_sample_value slot bare value d =
    with_end slot value (record d {
      loaded = portion_plus d.loaded value;
      bare = portion_plus_if bare d.bare value;
    })

-- the portion of what this filter is the first to drop
abbrev pub portion_at : PortionsOf → Slot → Portion
portion_at d slots.Ignore = d.ignore
portion_at d slots.Focus = d.focus
portion_at d slots.Hide = d.hide
portion_at d slots.Show = d.show
portion_at d slots.ShowFrom = d.show_from
portion_at d slots.TagFocus = d.tagfocus
portion_at d slots.TagIgnore = d.tagignore
portion_at d _ = no_portion
