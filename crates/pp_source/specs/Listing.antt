-- A list report: which files it reads in which order, and its text.
use Rattle.std.specs.Prelude.{ℕ, List, [], ◌∷◌, ◌++◌, Option, Some, None, Result, Ok, Err, if◌then◌else◌}
use Rattle.pp_desk.specs.declared.file_content.FileContent.{FileContent}
use Rattle.pp_desk.specs.declared.file_content.FileContent.TheVariants as contents
use Rattle.pp_desk.specs.Script.{Script, Give, ◌>>=◌, read_file}
use Rattle.pp_model.specs.declared.config.Config.{Config}
use Rattle.pp_model.specs.declared.profile.Profile.{Profile}
use Rattle.pp_model.specs.declared.environment.Environment.{Environment}
use Rattle.pp_model.specs.Finders.{Finders}
use Rattle.pp_model.specs.FrameTexts.{Written}
use Rattle.pp_units.specs.Head.{Facts}
use Rattle.pp_count.specs.Sums.{Seen}
use Rattle.pp_count.specs.Counted.{has_own_match, report_frames}
use Rattle.pp_source.specs.declared.refusal.ListRefusal.{ListRefusal}
use Rattle.pp_source.specs.declared.refusal.ListRefusal.TheVariants as refusals
use Rattle.pp_source.specs.declared.source.FileSource.{FileSource}
use Rattle.pp_source.specs.declared.source.FileSource.TheVariants.{NoName, NotFound, TooLong, Whole}
use Rattle.pp_source.specs.declared.source.TheConstants.{SOURCE_LIMIT}
use Rattle.pp_source.specs.Files.{files_of_lines, source_at}
use Rattle.pp_source.specs.Paths.{paths_to_try}
use Rattle.pp_source.specs.Routines.{found_lines}
use Rattle.pp_source.specs.SourceText.{lines_text}

-- the source that a read has found, if any
abbrev pub source_found : FileContent → Option FileSource
source_found contents.Missing = None
source_found contents.TooLong = Some TooLong
source_found (contents.Whole bytes) = Some (Whole bytes)

-- what was found, and else what is done next
abbrev pub or_next : Script FileSource → Option FileSource → Script FileSource
or_next next (Some source) = Give source
or_next next None = next

-- Reads the first of these paths at which there is a file.
unfoldable pub first_present : List (List ℕ) → Script FileSource
first_present [] = Give NotFound
first_present (path ∷ paths) = do
  content ← read_file path SOURCE_LIMIT
  or_next (first_present paths) (source_found content)

-- Looks for the source of a file text; nothing is read for an empty one.
unfoldable pub source_of : Environment → List ℕ → Script FileSource
source_of environment [] = Give NoName
source_of environment (b ∷ file) =
    first_present (paths_to_try environment.source_path environment.trim_path (b ∷ file))

-- Reads the sources of these files, one after the other, behind those that were read.
unfoldable pub read_sources : Environment → List FileSource → List (List ℕ) → Script (List FileSource)
read_sources environment sources [] = Give sources
read_sources environment sources (file ∷ files) = do
  source ← source_of environment file
  read_sources environment (sources ++ source ∷ []) files

-- The report of these lines. The source of each of their files is read once.
unfoldable pub list_lines : Environment → List (Seen Written) → Facts → List Written
    → Script (List ℕ)
list_lines environment samples h lines = do
  sources ← read_sources environment [] (files_of_lines lines)
  Give (lines_text samples h (source_at (files_of_lines lines) sources) lines)

-- the report, where a function is found
unfoldable pub list_found : Environment → List (Seen Written) → Facts → List Written
    → Script (Option (List ℕ))
list_found environment samples h lines = do
  text ← list_lines environment samples h lines
  Give (Some text)

-- The list report: its text, after the sources of the lines that the own pattern finds were read. Where
-- it finds no function nothing is read, and there is no text.
abbrev pub list_report : Profile → Finders → Config → Option ℕ → Facts → Script (Option (List ℕ))
list_report p f config column h =
    if has_own_match p f config column
    then list_found config.environment (report_frames p f config column) h
    (found_lines f (report_frames p f config column))
    else Give None

-- a text that a report is to be added to, after it, and how the report ended
abbrev pub with_report : List ℕ → Option (List ℕ) → List ℕ × Result (Unit {0}) ListRefusal
with_report before (Some text) = (before ++ text, Ok tt)
with_report before None = (before, Err refusals.NoMatch)

-- Adds a report to a text.
unfoldable pub added_report : List ℕ → Script (Option (List ℕ))
    → Script (List ℕ × Result (Unit {0}) ListRefusal)
added_report before script = do
  report ← script
  Give (with_report before report)
