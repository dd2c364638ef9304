-- Merged reports are sums.
use Rattle.std.specs.Prelude.{◌≡◌, ℕ, ◌<◌, ◌^◌, ℤ, Bool, List, [], ◌∷◌, length, map, Some}
use Rattle.std.specs.List.{AllByRecursion}
use Rattle.pp_model.specs.declared.config.Config.{Config}
use Rattle.pp_model.specs.declared.grouping.Grain.{Grain}
use Rattle.pp_model.specs.declared.grouping.Grain.TheVariants.{Addresses}
use Rattle.pp_model.specs.declared.profile.Profile.{Profile}
use Rattle.pp_model.specs.Finders.{Finders}
use Rattle.pp_model.specs.FrameTexts.{Written}
use Rattle.pp_grain.specs.Keys.{key_cmp}
use Rattle.pp_share.specs.Described.{MappingText, mapping_text}
use Rattle.pp_share.specs.Alike.{first_alike}
use Rattle.pp_merge.specs.Merge.{all_mappings, merged}
use Rattle.pp_count.specs.Sums.{flat, cum}
use Rattle.pp_count.specs.EdgeSums.{edge_sum}
use Rattle.pp_count.specs.Counted.{report_samples}
use Rattle.pp_graph.specs.Trimmed.{int_sum}

-- The mappings have one file and, where keys tell addresses, one start.
pub record IsPlacedAs (grain : Grain) (a b : MappingText) : Type 0 where
  pub start : grain ≡ Addresses → a.start ≡ b.start
  pub file : a.file ≡ b.file

-- The source's mappings keep their places when it is merged with the others: they become mappings of the same file, and
-- where keys tell addresses of the same start, as when it is merged alone.
abbrev pub KeepsMappings : Grain → List Profile → Profile → Type 0
KeepsMappings grain sources q =
    AllByRecursion
    (λ m. IsPlacedAs grain (first_alike (all_mappings sources) (mapping_text q m))
    (first_alike (all_mappings (q ∷ [])) (mapping_text q m))) q.mapping

-- each sample has a value for each type, where there are `types`
abbrev pub HasValues : ℕ → Profile → Type 0
HasValues types p = AllByRecursion (λ s. length s.value ≡ types) p.sample

-- Sources whose figures can be added up: they have as many types, each sample has a value for each, mappings keep their
-- places, and values are divided by 1.
pub record AddUp (p : Profile) (ps : List Profile) (config : Config) (column : ℕ) : Type 0 where
  pub within : column < length p.sample_type
  pub types : AllByRecursion (λ q. length q.sample_type ≡ length p.sample_type) (p ∷ ps)
  pub values : AllByRecursion (HasValues (length p.sample_type)) (p ∷ ps)
  pub starts : AllByRecursion (λ q. AllByRecursion (λ m. m.start < 2 ^ 64) q.mapping) (p ∷ ps)
  pub mappings : AllByRecursion (KeepsMappings config.grouping.grain (p ∷ ps)) (p ∷ ps)
  pub divisor : config.presentation.divide_by ≡ 1

-- the figure of each source alone, added up
abbrev pub over_sources : (Profile → ℤ) → List Profile → ℤ
over_sources figure sources = int_sum (map (λ q. figure (merged q [])) sources)

-- Each figure of the merged profile is the sum of those of the sources, each reported alone.
pub record AreSumsOfSources (p : Profile) (ps : List Profile) (f : Finders) (config : Config) (column : ℕ) : Type 0 where
  pub flat : (k : Written)
      → flat key_cmp (report_samples (merged p ps) f config (Some column)) k
      ≡ over_sources (λ q. flat key_cmp (report_samples q f config (Some column)) k) (p ∷ ps)
  pub cum : (k : Written)
      → cum key_cmp (report_samples (merged p ps) f config (Some column)) k
      ≡ over_sources (λ q. cum key_cmp (report_samples q f config (Some column)) k) (p ∷ ps)
  pub edge : (kept : Written → Bool) (a b : Written)
      → edge_sum key_cmp kept (report_samples (merged p ps) f config (Some column)) a b
      ≡ over_sources (λ q. edge_sum key_cmp kept (report_samples q f config (Some column)) a b) (p ∷ ps)

-- So it is of all sources that can be added up.
abbrev pub MergedAreSums : Type 0
MergedAreSums =
    (p : Profile) (ps : List Profile) (f : Finders) (config : Config) (column : ℕ)
    → AddUp p ps config column → AreSumsOfSources p ps f config column
