-- The sample types that have a word of their own.
use Rattle.std.specs.Prelude.{ℕ, List, Option, codes}
use Rattle.pp_options.specs.declared.sample_type.TheConstants.{SAMPLE_TYPES}
use Rattle.pp_options.specs.declared.sample_type.SampleType.{SampleType}
use Rattle.pp_options.specs.declared.sample_type.SampleType.TheVariants.{InuseSpace, InuseObjects, AllocSpace, AllocObjects, Contentions, Delay}
use Rattle.pp_options.specs.Tables.{value_named}

-- the sample type that a word selects
unfoldable pub sample_type_named : List ℕ → Option SampleType
sample_type_named word = value_named SAMPLE_TYPES word

-- what profiles call it
abbrev pub type_name : SampleType → List ℕ
type_name InuseSpace = codes "inuse_space"
type_name InuseObjects = codes "inuse_objects"
type_name AllocSpace = codes "alloc_space"
type_name AllocObjects = codes "alloc_objects"
type_name Contentions = codes "contentions"
type_name Delay = codes "delay"
