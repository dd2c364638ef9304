-- What a profile loads as that was made of a number.
use Rattle.std.specs.Prelude.{◌≡◌, ◌≤◌, ℕ, [], length, Ok}
use Rattle.pp_merge.specs.Merge.{merged}
use Rattle.pp_load.specs.Decode.{decoded}
use Rattle.pp_load.specs.Generator.{made, generated}

-- the bytes load as the profile that was made, merged alone
abbrev pub GeneratedLoads : Type 0
GeneratedLoads = (samples source : ℕ) → samples ≤ 1000000 → decoded source (generated samples) ≡ Ok (merged (made samples) [])

-- they are at most 40,000,000
abbrev pub GeneratedIsSmall : Type 0
GeneratedIsSmall = (samples : ℕ) → samples ≤ 1000000 → length (generated samples) ≤ 40000000
