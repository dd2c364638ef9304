-- What consecutive ranges of samples come to, by key numbers: the part of each, and the part of them all.
use Rattle.std.specs.Prelude.{◌≡◌, ℕ, ◌+◌, ◌<◌, ◌≤◌, ◌^◌, List, [], ◌∷◌, length, Option, if◌then◌else◌, ⊤}
use Rattle.std.specs.List.{flat_map}
use Rattle.pp_model.specs.declared.config.Config.{Config}
use Rattle.pp_model.specs.declared.loaded.Loaded.{Loaded}
use Rattle.pp_model.specs.declared.profile.Profile.{Profile}
use Rattle.pp_model.specs.declared.profile.Sample.{Sample}
use Rattle.pp_model.specs.declared.verdicts.Verdicts.{Verdicts}
use Rattle.pp_model.specs.Finders.{Finders}
use Rattle.pp_model.specs.FrameTexts.{Written}
use Rattle.pp_grain.specs.declared.key.Key.{Key}
use Rattle.pp_grain.specs.Keys.{key_cmp}
use Rattle.pp_count.specs.declared.part.KeySum.{KeySum}
use Rattle.pp_count.specs.declared.part.Part.{Part}
use Rattle.pp_count.specs.Matches.{matches_among}
use Rattle.pp_count.specs.Parts.{sums_of, flat_size, cum_size}
use Rattle.pp_count.specs.Seeing.{HoldsFilters, seen_samples, filtered_from, absolute_all}
use Rattle.pp_count.specs.Sums.{Seen, flat, cum, occurs, weighed}
use Rattle.pp_count.specs.Table.{written_key}

-- the sums over these samples of the key that has this number among the names
abbrev pub named_sum : Profile → List Key → List (Seen Written) → ℕ → KeySum
named_sum p names samples k = record {
  key = k;
  flat = flat key_cmp samples (written_key p names k);
  cum = cum key_cmp samples (written_key p names k);
}

-- The entries are the sums over these samples: each name that occurs has one, and no other has any.
pub record AreNamedSums (p : Profile) (names : List Key) (samples : List (Seen Written))
    (sums : List KeySum) : Type 0 where
  pub each : (k : ℕ) → k < length names
      → sums_of k sums
      ≡ (if occurs key_cmp samples (written_key p names k) then named_sum p names samples k ∷ [] else [])
  pub no_other : (k : ℕ) → length names ≤ k → sums_of k sums ≡ []

-- no sum of the entries is larger than this
pub record AreWithin (size : ℕ) (sums : List KeySum) : Type 0 where
  pub flat : flat_size sums ≤ size
  pub cum : cum_size sums ≤ size

-- The part is what these samples come to, whatever the patterns find, where the first of them has the number `number`.
-- It has the numbers of those that the filters leave, in order, and the sums of the names that occur in them. The
-- matches are those of all of them.
pub record IsRangePart (l : Loaded) (v : Verdicts) (config : Config) (column : Option ℕ)
    (names : List Key) (number : ℕ) (samples : List Sample) (part : Part) : Type 0 where
  pub kept : (f : Finders) → HoldsFilters l v config.filtering f
      → part.kept ≡ filtered_from l.profile f config.filtering number samples
  pub sums : (f : Finders) → HoldsFilters l v config.filtering f
      → AreNamedSums l.profile names (weighed (seen_samples l.profile f config column samples)) part.sums
  pub matched : (f : Finders) → HoldsFilters l v config.filtering f
      → part.matched.slots ≡ matches_among l.profile f config.filtering samples
  pub within : (k : ℕ)
      → AreWithin (absolute_all column config.presentation.divide_by samples) (sums_of k part.sums)

-- The parts are those of these ranges, one after the other, of which the first begins at this number.
abbrev pub AreConsecutive : Loaded → Verdicts → Config → Option ℕ → List Key → ℕ → List (List Sample) → List Part → Type 0
AreConsecutive l v config column names number [] [] = ⊤
AreConsecutive l v config column names number [] (part ∷ parts) = ⊥
AreConsecutive l v config column names number (samples ∷ ranges) [] = ⊥
AreConsecutive l v config column names number (samples ∷ ranges) (part ∷ parts) =
    IsRangePart l v config column names number samples part
    × AreConsecutive l v config column names (number + length samples) ranges parts

-- the samples of all ranges
abbrev pub samples_of_ranges : List (List Sample) → List Sample
samples_of_ranges ranges = flat_map (λ samples. samples) ranges

-- the numbers in all parts
abbrev pub all_kept : List Part → List ℕ
all_kept parts = flat_map (λ part. part.kept) parts

-- the entries in all parts
abbrev pub all_sums : List Part → List KeySum
all_sums parts = flat_map (λ part. part.sums) parts

-- The sums of each key can be added up over the parts, as those of consecutive ranges can.
pub record CanJoin (parts : List Part) : Type 0 where
  pub flat : (k : ℕ) → flat_size (sums_of k (all_sums parts)) < 2 ^ 63
  pub cum : (k : ℕ) → cum_size (sums_of k (all_sums parts)) < 2 ^ 63

-- Wherever the parts are of consecutive ranges, the part is that of all their samples.
abbrev pub IsJoinedPart : List Part → Part → Type 0
IsJoinedPart parts whole =
    (l : Loaded) (v : Verdicts) (config : Config) (column : Option ℕ) (names : List Key) (number : ℕ)
    (ranges : List (List Sample))
    → AreConsecutive l v config column names number ranges parts
    → IsRangePart l v config column names number (samples_of_ranges ranges) whole
