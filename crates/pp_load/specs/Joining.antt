-- What is known of profiles while they become one. No public clause cites it.
use Rattle.std.specs.Prelude.{◌≡◌, ℕ, ◌+◌, ◌≤◌, ◌<◌, ◌^◌, List, [], ◌∷◌, map, length}
use Rattle.std.specs.List.{AllByRecursion, sum_by}
use Rattle.pp_model.specs.declared.profile.Profile.{Profile}
use Rattle.pp_model.specs.Rules.{NoRuleFails}
use Rattle.pp_model.specs.Sizes.{IsCountable}
use Rattle.pp_merge.specs.declared.refusal.MergeRefusal.{MergeRefusal}
use Rattle.pp_merge.specs.declared.refusal.MergeRefusal.TheVariants as merging
use Rattle.pp_share.specs.Header.{TypeText, type_text}
use Rattle.pp_merge.specs.Merge.{merged}
use Rattle.pp_desk.specs.declared.halt.Halt.{Halt}
use Rattle.pp_desk.specs.declared.halt.Halt.TheVariants as halts
use Rattle.pp_desk.specs.declared.stop.Stop.TheVariants as stops
use Rattle.pp_load.specs.declared.refusal.LoadRefusal.{LoadRefusal}
use Rattle.pp_load.specs.declared.refusal.LoadRefusal.TheVariants as refusals

-- What a profile counts, and what its period is: all that profiles have to agree in.
pub record Kinds : Type 0 where
  pub columns : List TypeText
  pub period : TypeText

-- the kinds of a profile, written out
abbrev pub kinds : Profile → Kinds
kinds p = record {
  columns = map (type_text p) p.sample_type;
  period = type_text p p.period_type;
}

-- the kinds of the first profile
abbrev pub first_kinds : List Profile → Kinds
first_kinds [] = record { columns = []; period = record { kind = []; unit = [] } }
first_kinds (p ∷ ps) = kinds p

-- the kinds of each profile are these
abbrev pub AreOf : Kinds → List Profile → Type 0
AreOf own list = AllByRecursion (λ p. kinds p ≡ own) list

-- how many samples the profiles have together
abbrev pub samples_of : List Profile → ℕ
samples_of list = sum_by (λ p. length p.sample) list

-- no mapping of the profile starts past 64 bits
abbrev pub HasStarts : Profile → Type 0
HasStarts p = AllByRecursion (λ m. m.start < 2 ^ 64) p.mapping

-- The profile can be counted, and stays as it is when it is merged alone.
pub record IsReady (p : Profile) : Type 0 where
  pub countable : IsCountable p
  pub alone : merged p [] ≡ p

-- The profiles are valid, their mappings lie in the address space, and what they have can be counted.
pub record AreCountableProfiles (list : List Profile) : Type 0 where
  pub valid : AllByRecursion NoRuleFails list
  pub starts : AllByRecursion HasStarts list
  pub long : length list < 2 ^ 32
  pub columns : AllByRecursion (λ p. length p.sample_type < 2 ^ 32) list
  pub samples : samples_of list < 2 ^ 32

-- The profiles can be merged, unless the sum of a column is too large.
pub record AreMergeable (list : List Profile) : Type 0 where
  pub some : 0 < length list
  pub few : AreCountableProfiles list
  pub alike : AreOf (first_kinds list) list

-- The profile is what such profiles were merged to.
pub record IsOneOf (list : List Profile) (p : Profile) : Type 0 where
  pub ready : IsReady p
  pub starts : HasStarts p
  pub of_kinds : kinds p ≡ first_kinds list
  pub few : length p.sample ≤ samples_of list

-- The bases can be merged and taken off the profile.
pub record CanTakeOff (source : Profile) (bases : List Profile) : Type 0 where
  pub joins : AreMergeable bases
  pub countable : IsCountable source
  pub starts : HasStarts source
  pub of_kinds : kinds source ≡ first_kinds bases
  pub few : length source.sample + samples_of bases < 2 ^ 32

-- The base can be taken off the profile.
pub record CanTakeOffOne (source base : Profile) : Type 0 where
  pub source_countable : IsCountable source
  pub base_countable : IsCountable base
  pub source_starts : HasStarts source
  pub base_starts : HasStarts base
  pub of_kinds : kinds source ≡ kinds base
  pub few : length source.sample + length base.sample < 2 ^ 32

-- how a refusal of merging ends the loading
abbrev pub halt_of : MergeRefusal → Halt LoadRefusal
halt_of (merging.Incompatible source what) = halts.Refused (refusals.Incompatible source what)
halt_of (merging.TotalTooLarge column) = halts.Refused (refusals.TotalTooLarge column)
halt_of merging.Memory = halts.Stopped stops.Memory
