-- How the values of one unit are printed: which unit is picked for them, forced, or picked for each value.
use Rattle.std.specs.Prelude.{ℕ, ◌*◌, Bool, true, false, List, Option, Some, None, option_map, find, unwrap_or, nat_le, if◌then◌else◌}
use Rattle.std.specs.Option.{option_map_or}
use Rattle.pp_units.specs.declared.family.Family.{Family}
use Rattle.pp_units.specs.declared.family.Family.TheVariants.{Time, Bytes, Plain, Other}
use Rattle.pp_units.specs.declared.scale.Scale.{Scale}
use Rattle.pp_units.specs.declared.scale.Scale.TheVariants.{Nanoseconds, SingleBytes, Counts}
use Rattle.pp_units.specs.declared.unit.Unit.{Unit as PrintedUnit}
use Rattle.pp_units.specs.Scales.{family_of_scale, factor, suffix_of_scale, falling, is_spelled, scale_of, family}

-- how values of one unit are printed
pub record Shown : Type 0 where
  -- how many of the family's smallest unit a value of 1 is
  pub from : ℕ
  -- how many of it the printed unit is
  pub to : ℕ
  -- what stands after a number
  pub suffix : List ℕ
  -- the family of which each value has a unit of its own; none where all are printed in the one above
  pub each : Option Family

-- the facts of a `Unit`
abbrev pub shown : PrintedUnit → Shown
shown unit = record { from = unit.from; to = unit.to; suffix = unit.suffix; each = unit.each }

-- how many of the family's smallest unit a unit is
abbrev pub factor_of : List ℕ → ℕ
factor_of unit = option_map_or factor (scale_of unit) 1

-- what is printed for a unit: one that is not in the table as it stands
abbrev pub suffix_of : List ℕ → List ℕ
suffix_of unit = option_map_or suffix_of_scale (scale_of unit) unit

-- the smallest unit of a family of the table
abbrev pub smallest : Family → Scale
smallest Time = Nanoseconds
smallest Bytes = SingleBytes
smallest Plain = Counts
smallest Other = Counts

-- the largest unit of a family of which the amount, counted in the smallest, has one,
-- or the smallest where it has none
abbrev pub largest_within : ℕ → Family → Scale
largest_within amount kind =
    unwrap_or (find (λ scale. nat_le (factor scale) amount) (falling kind)) (smallest kind)

-- as `picked`, for the unit's place in the table
abbrev pub picked_by : ℕ → List ℕ → Option Scale → Shown
picked_by total unit None = record { from = 1; to = 1; suffix = unit; each = None }
picked_by total unit (Some scale) =
    let largest = largest_within (total * factor scale) (family_of_scale scale) in
    record { from = factor scale; to = factor largest; suffix = suffix_of_scale largest; each = None }

-- the largest unit of the family that the total has one of, and the smallest for a total of 0
unfoldable pub picked : ℕ → List ℕ → Shown
picked total unit = picked_by total unit (scale_of unit)

-- two units measure the same: they are of one family, and of no family only where they are
-- spelled alike
abbrev pub agree : Family → Family → Bool → Bool
agree Time Time alike = true
agree Bytes Bytes alike = true
agree Plain Plain alike = true
agree Other Other alike = alike
agree _ _ alike = false

-- the two units, by their texts, are of one kind
unfoldable pub is_same_kind : List ℕ → List ℕ → Bool
is_same_kind wanted unit = agree (family wanted) (family unit) (is_spelled wanted unit)

-- the unit that is asked for, or none where it measures something else
unfoldable pub forced : List ℕ → List ℕ → Option Shown
forced wanted unit =
    if is_same_kind wanted unit
    then Some (record { from = factor_of unit; to = factor_of wanted; suffix = suffix_of wanted; each = None })
    else None

-- the family of a unit of the table
abbrev pub known_family : List ℕ → Option Family
known_family unit = option_map family_of_scale (scale_of unit)

-- A unit for each value: the one that is picked for a total of its size. The unit that stands beside it is that of 1.
unfoldable pub picked_for_each : List ℕ → Shown
picked_for_each unit = record { from = factor_of unit; to = factor_of unit; suffix = suffix_of unit; each = known_family unit }

-- the unit of the table in which a value of this size is printed, where each value has its own
abbrev pub own_scale : ℕ → Shown → Option Scale
own_scale size unit = option_map (largest_within (size * unit.from)) unit.each

-- how many of the family's smallest unit the unit is in which a value of this size is printed
abbrev pub to_at : ℕ → Shown → ℕ
to_at size unit = option_map_or factor (own_scale size unit) unit.to

-- what stands after the number of a value of this size
abbrev pub suffix_at : ℕ → Shown → List ℕ
suffix_at size unit = option_map_or suffix_of_scale (own_scale size unit) unit.suffix
