-- What a range of samples comes to, as its parts are made on the lanes.
use Rattle.std.specs.Prelude.{◌≡◌, ℕ, ◌+◌, ◌<◌, ◌≤◌, ◌^◌, Bool, List, length, map, All, Option, None, MatchOption, option_map, ⊤}
use Rattle.std.specs.Option.{option_map_or}
use Rattle.pp_model.specs.declared.config.Config.{Config}
use Rattle.pp_model.specs.declared.profile.Sample.{Sample}
use Rattle.pp_model.specs.declared.profile.Profile.{Profile}
use Rattle.pp_model.specs.Conditions.{HasVerdicts}
use Rattle.pp_model.specs.Finders.{Finders}
use Rattle.pp_count.specs.declared.scope.Scope.{Scope}
use Rattle.pp_count.specs.declared.part.Part.{Part}
use Rattle.pp_count.specs.declared.pairs.Pairing.{Pairing}
use Rattle.pp_count.specs.declared.sofar.Sofar.{Sofar}
use Rattle.pp_count.specs.declared.tally.Tally.{Tally}
use Rattle.pp_count.specs.declared.total.Totals.{Totals}
use Rattle.pp_count.specs.Filters.{AreFilters}
use Rattle.pp_count.specs.Tally.{IsTallyOf, tally_at}
use Rattle.pp_count.specs.Table.{written_key, IsKeyTable}
use Rattle.pp_count.specs.Sums.{Seen, weighed, absolute, renamed}
use Rattle.pp_count.specs.Seeing.{HoldsFilters, seen_samples, filtered_from, absolute_all}
use Rattle.pp_count.specs.Parts.{AreKeySums, HasBelow}
use Rattle.pp_count.specs.Edges.{counted_keys, HasPairPlaces}
use Rattle.pp_count.specs.Counts.{samples_at, samples_of_total}
use Rattle.pp_count.specs.Matches.{matches_among}
use Rattle.pp_count.specs.Rising.{AreRisingBetween}
use Rattle.pp_count.specs.Totals.{AreTotals}

-- the profile whose samples are counted
abbrev pub profile_in_scope : Scope → Profile
profile_in_scope scope = scope.l.now.profile

-- the configuration, with what the scope's keys are
abbrev pub config_of : Scope → Config
config_of scope = record (scope.config.now) { grouping = scope.grouping }

-- the keys that pairs are counted over; none where keys are counted
abbrev pub over_of : Scope → Option Pairing
over_of scope = option_map (λ over. over.now) scope.over

-- the numbers of the samples that are counted; none where all are
abbrev pub chosen_of : Scope → Option (List ℕ)
chosen_of scope = option_map (λ numbers. numbers.now) scope.chosen

-- the samples that are counted
abbrev pub samples_in_scope : Scope → List Sample
samples_in_scope scope = option_map_or (samples_at (profile_in_scope scope)) (chosen_of scope) (profile_in_scope scope).sample

-- The verdicts, the filters and the table are those of the profile and the configuration. Samples that are chosen are
-- the profile's, each once.
pub record IsSoundScope (scope : Scope) : Type 0 where
  pub filters : AreFilters
      (profile_in_scope scope) scope.v.now scope.config.now.filtering scope.filters.now
  pub verdicts : HasVerdicts (profile_in_scope scope) scope.v.now
  pub table : IsKeyTable (profile_in_scope scope) scope.grouping scope.table.now
  pub few_kept : MatchOption (over_of scope) ⊤ HasPairPlaces
  pub chosen : MatchOption (chosen_of scope) ⊤ (AreRisingBetween 0 (length (profile_in_scope scope).sample))

-- the sum of the absolute selected values of the samples
abbrev pub size_of : Scope → List Sample → ℕ
size_of scope samples = absolute_all scope.column scope.config.now.presentation.divide_by samples

-- The samples can be numbered, and their values added up.
pub record AreCountable (scope : Scope) (samples : List Sample) : Type 0 where
  pub fits : size_of scope samples < 2 ^ 63
  pub few : length samples < 2 ^ 32

-- The list is what the report sees of the samples, by key numbers.
pub record AreSeen (scope : Scope) (samples : List Sample) (seen : List (Seen ℕ)) : Type 0 where
  pub below : All (HasBelow (length scope.table.now.names)) seen
  pub within : absolute seen ≤ size_of scope samples
  pub are : (f : Finders) → HoldsFilters scope.l.now scope.v.now scope.config.now.filtering f
      → map (renamed (written_key (profile_in_scope scope) scope.table.now.names)) seen
      ≡ seen_samples (profile_in_scope scope) f (config_of scope) scope.column samples

-- the sample with what is counted of its keys
abbrev pub counted_as : Scope → Seen ℕ → Seen ℕ
counted_as scope s = record { value = s.value; keys = counted_keys (over_of scope) s.keys }

-- The slots are the matches of these samples. Samples that are chosen are not searched.
abbrev pub HasMatches : Scope → List Sample → List Bool → Type 0
HasMatches scope samples slots =
    scope.chosen ≡ None → (f : Finders)
    → HoldsFilters scope.l.now scope.v.now scope.config.now.filtering f
    → slots ≡ matches_among (profile_in_scope scope) f scope.config.now.filtering samples

-- The sums are over those of these samples that percentages are taken of. Samples that are chosen are not added up.
abbrev pub HasTotals : Scope → List Sample → Totals → Type 0
HasTotals scope samples totals =
    scope.chosen ≡ None → (f : Finders)
    → HoldsFilters scope.l.now scope.v.now scope.config.now.filtering f
    → AreTotals (profile_in_scope scope) scope.config.now.presentation scope.column
    (samples_of_total (profile_in_scope scope) f (config_of scope) samples) totals

-- The part is that of these samples, of which the first has this number.
pub record IsPartOf (scope : Scope) (number : ℕ) (samples : List Sample) (part : Part)
    : Type 0 where
  pub seen : List (Seen ℕ)
  pub are : AreSeen scope samples seen
  pub sums : AreKeySums (weighed (map (counted_as scope) seen)) part.sums
  pub kept : (f : Finders) → HoldsFilters scope.l.now scope.v.now scope.config.now.filtering f
      → part.kept ≡ filtered_from
      (profile_in_scope scope) f scope.config.now.filtering number samples
  pub rising : AreRisingBetween number (number + length samples) part.kept
  pub matched : HasMatches scope samples part.matched.slots
  pub totals : HasTotals scope samples part.totals

-- The samples so far are added to the tallies, none of them at a turn after this one. The numbers of those that the
-- filters leave are listed. No public clause cites it.
pub record CountedTo (scope : Scope) (number turn : ℕ) (samples : List Sample) (at : ℕ → Tally)
    (numbers : List ℕ) : Type 0 where
  pub seen : List (Seen ℕ)
  pub are : AreSeen scope samples seen
  pub tallies : (k : ℕ) → IsTallyOf (weighed (map (counted_as scope) seen)) k (at k)
  pub earlier : (k : ℕ) → (at k).last ≤ turn
  pub kept : (f : Finders) → HoldsFilters scope.l.now scope.v.now scope.config.now.filtering f
      → numbers ≡ filtered_from (profile_in_scope scope) f scope.config.now.filtering number samples
  pub rising : AreRisingBetween number (number + length samples) numbers

-- These samples are added up and searched for matches, and so is what percentages are taken of. No public clause cites
-- it.
pub record AreCounted (scope : Scope) (samples : List Sample) (sofar : Sofar) : Type 0 where
  pub counted : CountedTo scope 0 1 samples (tally_at sofar.tallies) sofar.kept
  pub matched : HasMatches scope samples sofar.matched.slots
  pub totals : HasTotals scope samples sofar.totals
