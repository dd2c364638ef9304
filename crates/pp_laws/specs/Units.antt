-- The unit only spells.
use Rattle.std.specs.Prelude.{◌≡◌, ℕ, ◌<◌, ◌≤◌, ◌*◌, ◌^◌, ℤ, pos, ◌≤ℤ◌, ◌<ℤ◌, nat_abs, List, Option, IfSome, codes}
use Rattle.pp_units.specs.Numbers.{number_text, value_text, signed_text, shortened}
use Rattle.pp_units.specs.Rounded.{IsNearest}
use Rattle.pp_units.specs.Shown.{Shown, picked, forced, picked_for_each, to_at}
use Rattle.pp_model.specs.declared.config.Config.{Config}
use Rattle.pp_model.specs.declared.profile.Profile.{Profile}
use Rattle.pp_model.specs.Finders.{Finders}
use Rattle.pp_count.specs.Counts.{total_of}
use Rattle.pp_count.specs.Counted.{report_samples}
use Rattle.pp_graph.specs.Trim.{report_keys}

-- the variables with this unit
abbrev pub with_unit : List ℕ → Config → Config
with_unit unit config = record config { presentation = record config.presentation { unit = unit } }

-- A report in this unit is over the same samples, so its figures are the same. It shows the same rows in the same
-- order.
pub record HasSameRows (unit : List ℕ) (p : Profile) (f : Finders) (config : Config) (column : Option ℕ) : Type 0 where
  pub samples : report_samples p f (with_unit unit config) column ≡ report_samples p f config column
  pub total : total_of p f (with_unit unit config) column ≡ total_of p f config column
  pub rows : (limit : ℕ) → report_keys p f (with_unit unit config) column limit ≡ report_keys p f config column limit

-- So it is for every unit.
abbrev pub RowsStay : Type 0
RowsStay =
    (unit : List ℕ) (p : Profile) (f : Finders) (config : Config) (column : Option ℕ)
    → HasSameRows unit p f config column

-- The value's number in its unit is spelled as a number of hundredths, the nearest to the value, on the same side of 0.
pub record IsSpelled (unit : Shown) (value : ℤ) : Type 0 where
  pub hundredths : ℤ
  pub text : number_text value unit ≡ signed_text shortened hundredths
  pub near : IsNearest (nat_abs value * (100 * unit.from)) (to_at (nat_abs value) unit) (nat_abs hundredths)
  pub above : pos 0 ≤ℤ value → pos 0 ≤ℤ hundredths
  pub below : value <ℤ pos 0 → hundredths ≤ℤ pos 0

-- So it is in every unit that isn't empty.
abbrev pub UnitsSpell : Type 0
UnitsSpell = (unit : Shown) (value : ℤ) → 0 < to_at (nat_abs value) unit → IsSpelled unit value

-- No unit that is picked for a total is empty.
abbrev pub PickedUnitsSpell : Type 0
PickedUnitsSpell = (total : ℕ) (unit : List ℕ) (size : ℕ) → 0 < to_at size (picked total unit)

-- No unit that is asked for is empty.
abbrev pub ForcedUnitsSpell : Type 0
ForcedUnitsSpell = (wanted unit : List ℕ) (size : ℕ) → IfSome (forced wanted unit) (λ shown. 0 < to_at size shown)

-- Where each value has its own unit, none of these is empty.
abbrev pub EachUnitsSpell : Type 0
EachUnitsSpell = (unit : List ℕ) (size : ℕ) → 0 < to_at size (picked_for_each unit)

-- Where each value has its own unit, it is printed as beside a total of its size.
abbrev pub EachIsPicked : Type 0
EachIsPicked = (unit : List ℕ) (value : ℤ) → value_text value (picked_for_each unit) ≡ value_text value (picked (nat_abs value) unit)

-- Where each value has its own unit, only 0 is printed as `0`.
abbrev pub EachTellsZero : Type 0
EachTellsZero =
    (unit : List ℕ) (value : ℤ) → nat_abs value ≤ 2 ^ 63 → value_text value (picked_for_each unit) ≡ codes "0" → value ≡ pos 0
