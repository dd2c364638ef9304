-- The files of a report, and their sources.
use Rattle.std.specs.Prelude.{ℕ, List, [], ◌∷◌, map, bytes_eq, if◌then◌else◌}
use Rattle.pp_model.specs.FirstSight.{distinct}
use Rattle.pp_model.specs.FrameTexts.{Written}
use Rattle.pp_source.specs.declared.files.Sources.{Sources}
use Rattle.pp_source.specs.declared.source.FileSource.{FileSource}
use Rattle.pp_source.specs.declared.source.FileSource.TheVariants.{NotFound}
use Rattle.pp_source.specs.declared.split.SplitSource.{SplitSource}

-- The file texts of these lines, each once, in the order in which the lines need them.
abbrev pub files_of_lines : List Written → List (List ℕ)
files_of_lines lines = distinct bytes_eq (map (λ k. k.file) lines)

-- The source of a file, where these are the sources of these files.
abbrev pub source_at : List (List ℕ) → List FileSource → List ℕ → FileSource
source_at [] sources file = NotFound
source_at (f ∷ files) [] file = NotFound
source_at (f ∷ files) (source ∷ sources) file =
    if bytes_eq file f then source else source_at files sources file

-- the source that was cut into lines
abbrev pub whole_source : SplitSource → FileSource
whole_source split = split.source.now

-- the source of a file, among those that were read
abbrev pub source_in : Sources → List ℕ → FileSource
source_in read = source_at (map (λ f. f.now) read.files.keys) (map whole_source read.sources.items)
