-- The table of units: families, factors, what is printed, and spellings.
use Rattle.std.specs.Prelude.{ℕ, Bool, List, [], ◌∷◌, ◌++◌, Option, codes, find}
use Rattle.std.specs.List.{list_any}
use Rattle.std.specs.Option.{option_map_or}
use Rattle.std.specs.Str.{str_eq_ignore_ascii_case}
use Rattle.pp_units.specs.declared.family.Family.{Family}
use Rattle.pp_units.specs.declared.family.Family.TheVariants.{Time, Bytes, Plain, Other}
use Rattle.pp_units.specs.declared.scale.Scale.{Scale}
use Rattle.pp_units.specs.declared.scale.Scale.TheVariants.{Nanoseconds, Microseconds, Milliseconds, Seconds, Hours, SingleBytes, Kilobytes, Megabytes, Gigabytes, Terabytes, Petabytes, Counts}

-- what a unit of the table measures
abbrev pub family_of_scale : Scale → Family
family_of_scale Nanoseconds = Time
family_of_scale Microseconds = Time
family_of_scale Milliseconds = Time
family_of_scale Seconds = Time
family_of_scale Hours = Time
family_of_scale SingleBytes = Bytes
family_of_scale Kilobytes = Bytes
family_of_scale Megabytes = Bytes
family_of_scale Gigabytes = Bytes
family_of_scale Terabytes = Bytes
family_of_scale Petabytes = Bytes
family_of_scale Counts = Plain

-- how many nanoseconds, bytes or counts it is
abbrev pub factor : Scale → ℕ
factor Nanoseconds = 1
factor Microseconds = 1000
factor Milliseconds = 1000000
factor Seconds = 1000000000
factor Hours = 3600000000000
factor SingleBytes = 1
factor Kilobytes = 1024
factor Megabytes = 1048576
factor Gigabytes = 1073741824
factor Terabytes = 1099511627776
factor Petabytes = 1125899906842624
factor Counts = 1

-- what is printed after a number
abbrev pub suffix_of_scale : Scale → List ℕ
suffix_of_scale Nanoseconds = codes "ns"
suffix_of_scale Microseconds = codes "us"
suffix_of_scale Milliseconds = codes "ms"
suffix_of_scale Seconds = codes "s"
suffix_of_scale Hours = codes "hrs"
suffix_of_scale SingleBytes = codes "B"
suffix_of_scale Kilobytes = codes "kB"
suffix_of_scale Megabytes = codes "MB"
suffix_of_scale Gigabytes = codes "GB"
suffix_of_scale Terabytes = codes "TB"
suffix_of_scale Petabytes = codes "PB"
suffix_of_scale Counts = []

-- how it is spelled
abbrev pub spellings : Scale → List (List ℕ)
spellings Nanoseconds = codes "ns" ∷ codes "nanosecond" ∷ codes "nanoseconds" ∷ []
spellings Microseconds = codes "us" ∷ codes "microsecond" ∷ codes "microseconds" ∷ []
spellings Milliseconds = codes "ms" ∷ codes "millisecond" ∷ codes "milliseconds" ∷ []
spellings Seconds = codes "s" ∷ codes "sec" ∷ codes "second" ∷ codes "seconds" ∷ []
spellings Hours = codes "hr" ∷ codes "hrs" ∷ codes "hour" ∷ codes "hours" ∷ []
spellings SingleBytes = codes "b" ∷ codes "byte" ∷ codes "bytes" ∷ []
spellings Kilobytes = codes "kb" ∷ codes "kilobyte" ∷ codes "kilobytes" ∷ []
spellings Megabytes = codes "mb" ∷ codes "megabyte" ∷ codes "megabytes" ∷ []
spellings Gigabytes = codes "gb" ∷ codes "gigabyte" ∷ codes "gigabytes" ∷ []
spellings Terabytes = codes "tb" ∷ codes "terabyte" ∷ codes "terabytes" ∷ []
spellings Petabytes = codes "pb" ∷ codes "petabyte" ∷ codes "petabytes" ∷ []
spellings Counts = [] ∷ codes "count" ∷ codes "sample" ∷ codes "samples" ∷ codes "unit" ∷ []

-- the units of a family, the largest first; of other units nothing is known
abbrev pub falling : Family → List Scale
falling Time = Hours ∷ Seconds ∷ Milliseconds ∷ Microseconds ∷ Nanoseconds ∷ []
falling Bytes = Petabytes ∷ Terabytes ∷ Gigabytes ∷ Megabytes ∷ Kilobytes ∷ SingleBytes ∷ []
falling Plain = Counts ∷ []
falling Other = []

-- the unit is spelled so, in letters of either case
abbrev pub is_spelled : List ℕ → List ℕ → Bool
is_spelled unit spelling = str_eq_ignore_ascii_case unit spelling

-- the unit has one of these spellings
abbrev pub is_among : List ℕ → List (List ℕ) → Bool
is_among unit names = list_any (λ spelling. is_spelled unit spelling) names

-- the unit is this one of the table
unfoldable pub is_named : Scale → List ℕ → Bool
is_named scale unit = is_among unit (spellings scale)

-- all units of the table
abbrev pub every_scale : List Scale
every_scale = falling Time ++ falling Bytes ++ falling Plain

-- the unit of the table that is spelled so
unfoldable pub scale_of : List ℕ → Option Scale
scale_of unit = find (λ scale. is_named scale unit) every_scale

-- what a unit measures
abbrev pub family : List ℕ → Family
family unit = option_map_or family_of_scale (scale_of unit) Other
