-- What samples come to in the lines and the routines that a report's own pattern finds. No public clause cites it.
use Rattle.std.specs.Prelude.{◌≡◌, ℕ, ◌≤◌, nat_lt, Bool, true, false, List, map, All, Option, if◌then◌else◌}
use Rattle.std.specs.List.{filter}
use Rattle.pp_model.specs.declared.grouping.Grain.TheVariants.{Lines}
use Rattle.pp_model.specs.declared.profile.Profile.{Profile}
use Rattle.pp_model.specs.declared.profile.Sample.{Sample}
use Rattle.pp_model.specs.declared.grouping.Grouping.{Grouping}
use Rattle.pp_model.specs.FirstSight.{place_of}
use Rattle.pp_model.specs.FrameTexts.{Written}
use Rattle.pp_grain.specs.declared.key.Key.{Key}
use Rattle.pp_grain.specs.Keys.{key_cmp, key_written, IsKeyOf}
use Rattle.pp_grain.specs.Sight.{same_key}
use Rattle.pp_grain.specs.Told.{written_texts}
use Rattle.pp_count.specs.Scope.{AreCountable, AreSeen, IsSoundScope, samples_in_scope}
use Rattle.pp_count.specs.declared.tallies.Tallies.{Tallies}
use Rattle.pp_count.specs.declared.tally.Tally.{Tally}
use Rattle.pp_count.specs.Sums.{Seen, weighed, renamed, occurs}
use Rattle.pp_count.specs.Tally.{no_tally, tally_at, IsTallyOf}
use Rattle.pp_source.specs.declared.found.FoundKeys.{FoundKeys}
use Rattle.pp_source.specs.declared.found.KeyPart.TheVariants.{Routine, Line}
use Rattle.pp_source.specs.declared.ledger.Ledger.{Ledger}
use Rattle.pp_source.specs.declared.lines.FoundLine.{FoundLine}
use Rattle.pp_source.specs.declared.rows.Listing.{Listing}
use Rattle.pp_source.specs.declared.tallies.KeyTallies.{KeyTallies}
use Rattle.pp_source.specs.declared.walk.WalkSums.{WalkSums}
use Rattle.pp_source.specs.declared.walk.Walk.{Walk}
use Rattle.pp_source.specs.Amounts.{source_line, routine_of}
use Rattle.pp_source.specs.Found.{IsFoundOf, is_among_keys, has_own_function}
use Rattle.pp_source.specs.Tally.{new_number, IsTallyBy}

-- what a key is where the lines of frames are counted
abbrev pub by_lines : Grouping → Grouping
by_lines grouping = record grouping { grain = Lines; showcolumns = false }

-- What a walk looks at belongs together.
pub record IsSoundWalk (walk : Walk) : Type 0 where
  pub scope : IsSoundScope walk.scope
  pub countable : AreCountable walk.scope (samples_in_scope walk.scope)
  pub lines : IsFoundOf walk.scope.v.now.own Line walk.scope.table.now.names walk.lines.now
  pub routines : IsFoundOf walk.scope.v.now.own Routine walk.scope.table.now.names walk.routines.now

-- The samples are added to the tallies of what was found, none of them at a turn after this one.
pub record AreAdded (found : FoundKeys) (turn : ℕ) (seen : List (Seen ℕ)) (tallies : Tallies)
    : Type 0 where
  pub each : (k : ℕ)
      → IsTallyOf (weighed (map (renamed (new_number found.numbers.items)) seen)) k (tally_at tallies k)
  pub earlier : (k : ℕ) → (tally_at tallies k).last ≤ turn

-- These samples are added to the sums.
pub record HasWalkedTo (walk : Walk) (turn : ℕ) (samples : List Sample) (sums : WalkSums) : Type 0 where
  pub seen : List (Seen ℕ)
  pub are : AreSeen walk.scope samples seen
  pub lines : AreAdded walk.lines.now turn seen sums.lines
  pub routines : AreAdded walk.routines.now turn seen sums.routines

-- what is kept of a key
abbrev pub tally_of_key : KeyTallies → Key → Tally
tally_of_key t k =
    if is_among_keys k t.names.keys then tally_at t.sums (place_of same_key t.names.keys k)
    else no_tally

-- A key of the profile stands for it.
pub record HasKey (p : Profile) (w : Written) : Type 0 where
  pub key : Key
  pub of_profile : IsKeyOf p key
  pub told : key_written p key ≡ w

-- Each key that the own pattern finds has its sums over these samples.
pub record HasKeyTallies (p : Profile) (own : Option (List Bool)) (samples : List (Seen Written)) (t : KeyTallies)
    : Type 0 where
  pub tallies : (k : Key) → IsKeyOf p k → has_own_function own k ≡ true
      → IsTallyBy key_cmp samples (key_written p k) (tally_of_key t k)
  pub known : (w : Written) → occurs key_cmp samples w ≡ true → HasKey p w

-- the keys are keys of the profile, and the own pattern finds them
pub record AreFound (p : Profile) (own : Option (List Bool)) (keys : List Key) : Type 0 where
  pub of_profile : All (IsKeyOf p) keys
  pub is_own : All (λ k. has_own_function own k ≡ true) keys

-- The ledger has what these samples come to in each line and in each routine that the own pattern finds.
pub record IsLedgerOf (p : Profile) (own : Option (List Bool)) (samples : List (Seen Written))
    (ledger : Ledger) : Type 0 where
  pub lines : HasKeyTallies p own (map (renamed source_line) samples) ledger.lines
  pub routines : HasKeyTallies p own (map (renamed routine_of) samples) ledger.routines

-- the keys that some sample had
abbrev pub keys_seen : KeyTallies → List Key
keys_seen t = filter (λ k. nat_lt 0 (tally_of_key t k).last) t.names.keys

-- what a line that was found stands for
abbrev pub line_texts : FoundLine → Written
line_texts line = written_texts line.texts

-- The line is one of the profile that the own pattern finds, with its texts.
pub record IsLineOf (p : Profile) (own : Option (List Bool)) (line : FoundLine) : Type 0 where
  pub key : IsKeyOf p line.key
  pub is_own : has_own_function own line.key ≡ true
  pub texts : line_texts line ≡ key_written p line.key

-- what lines stand for
abbrev pub lines_texts : List FoundLine → List Written
lines_texts lines = map line_texts lines

-- the line is one of the listing's report
abbrev pub IsLineIn : Listing → FoundLine → Type 0
IsLineIn listing line =
    IsLineOf listing.survey.now.l.now.profile listing.survey.now.v.now.own line

-- the listing's ledger has what these samples come to
abbrev pub ListsOf : Listing → List (Seen Written) → Type 0
ListsOf listing samples =
    IsLedgerOf listing.survey.now.l.now.profile listing.survey.now.v.now.own samples
    listing.ledger.now
