-- The lines of frames that nothing stands in front of, as the code holds them. No public clause cites it.
use Rattle.std.specs.Prelude.{◌≡◌, ℕ, ◌+◌, ◌<◌, ◌≤◌, List, [], length, take, drop, slice_index_or}
use Rattle.pp_model.specs.declared.profile.Profile.{Profile}
use Rattle.pp_grain.specs.declared.key.Key.{Key}
use Rattle.pp_count.specs.Table.{written_key}
use Rattle.pp_samples.specs.declared.frame_lines.FrameLines.{FrameLines}
use Rattle.pp_samples.specs.declared.frame_lines.LinePlace.{LinePlace}
use Rattle.pp_samples.specs.Traces.{frame_line}

-- the line of the key with the number, below nothing
abbrev pub bare_line : Profile → List Key → ℕ → List ℕ
bare_line p names n = frame_line [] (written_key p names n)

-- These bytes stand at the place.
pub record StandsAt (text : List ℕ) (place : LinePlace) (bytes : List ℕ) : Type 0 where
  pub within : place.start + place.len ≤ length text
  pub are : take place.len (drop place.start text) ≡ bytes

-- Each line that is made is that of its key.
pub record AreFrameLines (p : Profile) (names : List Key) (made : FrameLines) : Type 0 where
  pub each : (n : ℕ) (d : LinePlace) → n < length made.places.items
      → StandsAt made.text (slice_index_or made.places.items n d) (bare_line p names n)
