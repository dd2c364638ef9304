-- Sessions over files that other sessions saved, each of a group of sources: they go as a session over all sources.
use Rattle.std.specs.Prelude.{◌≡◌, ◌≤◌, ◌≤ℤ◌, ℕ, pos, true, List, [], ◌∷◌, length, map, Option, Some, None, Ok}
use Rattle.std.specs.List.{AllByRecursion, sum_by}
use Rattle.pp_base.specs.FileMap.{FileMap, content_at, among}
use Rattle.pp_base.specs.Judges.{Answer}
use Rattle.pp_desk.specs.declared.input_line.InputLine.{InputLine}
use Rattle.pp_desk.specs.Course.{Course, course}
use Rattle.pp_desk.specs.Effects.{outs, errs, reads_of, files_after}
use Rattle.pp_model.specs.declared.profile.Profile.{Profile}
use Rattle.pp_model.specs.declared.report.Report.TheVariants as reports
use Rattle.pp_model.specs.Judged.{loaded_of}
use Rattle.pp_model.specs.Lookup.{text_of}
use Rattle.pp_model.specs.Defaults.{standard_filtering}
use Rattle.pp_load.specs.Decode.{decoded}
use Rattle.pp_load.specs.Generator.{generated}
use Rattle.pp_load.specs.Load.{load}
use Rattle.pp_load.specs.Reads.{size_limit}
use Rattle.pp_options.specs.declared.origin.Origin.{Origin}
use Rattle.pp_options.specs.declared.origin.Origin.TheVariants.{Path, Gen}
use Rattle.pp_options.specs.declared.plan.Plan.{Plan}
use Rattle.pp_pattern.specs.Report.{Finds}
use Rattle.pp_saved.specs.SavedReports.{NamesNoKey}
use Rattle.pp_steps.specs.Premises.{HasFirstMappings, LosesNoSample}
use Rattle.pp_steps.specs.Refused.{IsMergeable, one_group}
use Rattle.pp_steps.specs.Steps.{Group, sources_of, all_sources, merged_group, at_once, in_steps}
use Rattle.pp_engine.specs.declared.ending.Cause.{Cause}
use Rattle.pp_engine.specs.declared.ending.Cause.TheVariants as causes
use Rattle.pp_alike.specs.Alike.{after_loading}
use Rattle.pp_alike.specs.SavedFiles.{SessionOf, course_in}
use Rattle.pp_engine.specs.Session.{session}
use Rattle.pp_engine.specs.Words.{performed}

-- the bytes of a source: a file's, or those that are made
abbrev pub source_bytes : FileMap → Origin → Option (List ℕ)
source_bytes files (Path path) = content_at files path
source_bytes files (Gen samples) = Some (generated samples)

-- The plan has no bases, and its sources have these bytes, which are together no more than are loaded.
pub record HasBytes (plan : Plan) (files : FileMap) (all : List (List ℕ)) : Type 0 where
  pub no_bases : plan.bases ≡ []
  pub found : map (source_bytes files) plan.origins ≡ map Some all
  pub short : sum_by (λ (bytes : List ℕ). length bytes) all ≤ size_limit

-- The plan has no bases, and its sources are these profiles. They do not depend on the numbers of the sources.
pub record HasProfiles (plan : Plan) (files : FileMap) (profiles : List Profile) : Type 0 where
  pub bytes : List (List ℕ)
  pub has : HasBytes plan files bytes
  pub are : map (decoded 0) bytes ≡ map Ok profiles

-- A group of sources that a session saves: the plan, the session, and the profiles of the sources.
pub record SavedGroup : Type 0 where
  pub plan : Plan
  pub session : SessionOf plan
  pub sources : Group

-- what the session of the group prints
abbrev pub printed : Finds → SavedGroup → List ℕ
printed finds g = outs (course_in finds g.session).effects

-- the profiles of each group
abbrev pub groups_of : List SavedGroup → List Group
groups_of groups = map (λ g. g.sources) groups

-- The session saves its group as a whole: without filters and without frames from labels. The first source, whose
-- patterns a merge has, has none.
pub record SavesWhole (g : SavedGroup) : Type 0 where
  pub has : HasProfiles g.plan g.session.files (sources_of g.sources)
  pub saves : g.plan.report ≡ Some reports.Proto
  pub no_filters : g.plan.config.filtering ≡ standard_filtering
  pub keyless : NamesNoKey g.plan.config.presentation
  pub no_drop : text_of g.sources.first g.sources.first.drop_frames ≡ []
  pub no_keep : text_of g.sources.first g.sources.first.keep_frames ≡ []

-- The session ends done, and what it prints is decoded to the merge of its group.
pub record PrintsMerge (finds : Finds) (g : SavedGroup) : Type 0 where
  pub done : (course_in finds g.session).value ≡ causes.Done
  pub decodes : (source : ℕ) → length (printed finds g) ≤ size_limit
      → decoded source (printed finds g) ≡ Ok (merged_group g.sources)

-- So it is where the group can be merged.
abbrev pub SavedGroupsAreMerges : Type 0
SavedGroupsAreMerges =
    (finds : Finds) (g : SavedGroup) → SavesWhole g → IsMergeable g.sources → PrintsMerge finds g

-- Sessions save the groups, each as a whole, and all profiles can be merged. In no group does a sample come to
-- nothing, and no duration is negative. Each mapping that is left is the first of all that is one with it.
pub record SavedInSteps (g : SavedGroup) (groups : List SavedGroup) : Type 0 where
  pub whole : AllByRecursion SavesWhole (g ∷ groups)
  pub mergeable : IsMergeable (one_group g.sources (groups_of groups))
  pub samples : AllByRecursion (LosesNoSample (length g.sources.first.sample_type)) (groups_of (g ∷ groups))
  pub durations : AllByRecursion (λ q. pos 0 ≤ℤ q.duration_nanos) (all_sources (groups_of (g ∷ groups)))
  pub mappings : HasFirstMappings (all_sources (groups_of (g ∷ groups))) (in_steps g.sources (groups_of groups))

-- What the sessions of the groups print loads as the merge of all their profiles at once, without verdicts of patterns.
abbrev pub SavedGroupsLoadAsOne : Type 0
SavedGroupsLoadAsOne =
    (finds : Finds) (g : SavedGroup) (groups : List SavedGroup) (reading : Plan)
    (files : FileMap) (locked : List (List ℕ)) (lines : List InputLine) (answers : List Answer)
    → SavedInSteps g groups
    → HasBytes reading files (map (printed finds) (g ∷ groups))
    → (course (load finds reading) files locked lines answers).value
    ≡ Ok (loaded_of (at_once g.sources (groups_of groups)) None None)

-- The plans make the same report, or start the shell, with the same variables.
pub record AskAlike (plan other : Plan) : Type 0 where
  pub report : other.report ≡ plan.report
  pub config : other.config ≡ plan.config

-- Both courses write the same and ask the same patterns, and end alike.
pub record GoAlike (c d : Course Cause) : Type 0 where
  pub out : outs c.effects ≡ outs d.effects
  pub err : errs c.effects ≡ errs d.effects
  pub written : (files : Option FileMap) → files_after files c.effects ≡ files_after files d.effects
  pub asked : c.asked ≡ d.asked
  pub ending : c.value ≡ d.value

-- Each of these paths has the same content in both.
abbrev pub AgreeAt : List (List ℕ) → FileMap → FileMap → Type 0
AgreeAt paths files other = (at : List ℕ) → among paths at ≡ true → content_at files at ≡ content_at other at

-- A session over what the sessions of the groups print goes as one over the sources of all groups. Both meet the same
-- locked paths, lines of the input and answers of the matcher, and find the same where they read after loading.
abbrev pub SavedGroupsGoAsOne : Type 0
SavedGroupsGoAsOne =
    (finds : Finds) (g : SavedGroup) (groups : List SavedGroup) (reading whole : Plan)
    (words others : List (List ℕ)) (files other : FileMap)
    (locked : List (List ℕ)) (lines : List InputLine) (answers : List Answer)
    → SavedInSteps g groups → AskAlike reading whole
    → performed words ≡ Some reading → performed others ≡ Some whole
    → HasBytes reading files (map (printed finds) (g ∷ groups))
    → HasProfiles whole other (all_sources (groups_of (g ∷ groups)))
    → AgreeAt (reads_of (after_loading finds reading files locked lines answers).effects) files other
    → GoAlike (course (session finds words) files locked lines answers)
    (course (session finds others) other locked lines answers)
