-- The samples of a tags report. No public clause cites it.
use Rattle.pp_model.specs.declared.profile.Sample.{Sample}
use Rattle.pp_model.specs.declared.profile.Profile.{Profile}
use Rattle.pp_model.specs.Finders.{Finders}
use Rattle.pp_count.specs.declared.survey.Survey.{Survey}
use Rattle.pp_count.specs.Seeing.{HoldsFilters}
use Rattle.pp_count.specs.Sums.{Seen}
use Rattle.pp_samples.specs.TagLines.{TagTexts, sample_with_tags}

-- the profile of the samples
abbrev pub survey_profile : Survey → Profile
survey_profile survey = survey.l.now.profile

-- the verdicts are what these patterns find
abbrev pub FindsInSurvey : Survey → Finders → Type 0
FindsInSurvey survey f = HoldsFilters survey.l.now survey.v.now survey.config.now.filtering f

-- the sample with its selected value and the tags that are shown of it
abbrev pub survey_tagged : Survey → Finders → Sample → Seen TagTexts
survey_tagged survey f s = sample_with_tags (survey_profile survey) f survey.config.now.presentation survey.column s
