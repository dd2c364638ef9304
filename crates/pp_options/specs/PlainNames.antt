-- The names of the options and their values, and the list of the defaults, in plain texts.
use Rattle.std.specs.Prelude.{ℕ, Bool, true, false, List, [], ◌∷◌, ◌++◌, map, codes}
use Rattle.std.specs.List.{filter_map, flat_map}
use Rattle.pp_model.specs.declared.grouping.Grain.{Grain}
use Rattle.pp_model.specs.declared.grouping.Grain.TheVariants as grains
use Rattle.pp_model.specs.declared.presentation.Sort.{Sort as Order}
use Rattle.pp_model.specs.declared.presentation.Sort.TheVariants as orders
use Rattle.pp_model.specs.declared.report.BaseKind.TheVariants as bases
use Rattle.pp_options.specs.declared.format.FlagFormat.TheVariants as reports
use Rattle.pp_options.specs.declared.format.Format.{Format}
use Rattle.pp_options.specs.declared.format.Format.TheVariants as formats
use Rattle.pp_options.specs.declared.format.PatternFormat.TheVariants as patterns
use Rattle.pp_options.specs.declared.help.Topic.{Topic}
use Rattle.pp_options.specs.declared.help.Topic.TheVariants.{Help, Version}
use Rattle.pp_options.specs.declared.name.OptionName.{OptionName}
use Rattle.pp_options.specs.declared.name.OptionName.TheVariants.{Base, Gen, Normalize}
use Rattle.pp_options.specs.declared.sample_type.SampleType.{SampleType}
use Rattle.pp_options.specs.declared.sample_type.SampleType.TheVariants as types
use Rattle.pp_options.specs.declared.variable.FlagVariable.TheVariants as flags
use Rattle.pp_options.specs.declared.variable.FractionVariable.TheVariants as fractions
use Rattle.pp_options.specs.declared.variable.TextVariable.TheVariants as texts
use Rattle.pp_options.specs.declared.variable.Variable.{Variable}
use Rattle.pp_options.specs.declared.variable.Variable.TheVariants.{Sort, Granularity, Flag, Nodecount, Fraction, Text, DivideBy, Workers}
use Rattle.pp_options.specs.Tables.{TableEntry, TableRow, named_by}

module _ {T : Type 0} where
  -- the names of a table, each with what it stands for
  abbrev pub names_in : List (TableEntry T) → List (List ℕ × T)
  names_in table = map (λ (named : TableEntry T). (named.0.now, named.1)) table

  -- the names of a table of options, likewise
  abbrev pub options_in : List (TableRow T) → List (List ℕ × T)
  options_in table = names_in (filter_map named_by table)

-- the variables, in the order in which they are listed
abbrev pub variable_names : List (List ℕ × Variable)
variable_names =
    (codes "sort", Sort)
    ∷ (codes "granularity", Granularity)
    ∷ (codes "noinlines", Flag flags.Noinlines)
    ∷ (codes "showcolumns", Flag flags.Showcolumns)
    ∷ (codes "path_tree", Flag flags.PathTree)
    ∷ (codes "nodecount", Nodecount)
    ∷ (codes "nodefraction", Fraction fractions.Nodefraction)
    ∷ (codes "edgefraction", Fraction fractions.Edgefraction)
    ∷ (codes "focus", Text texts.Focus)
    ∷ (codes "ignore", Text texts.Ignore)
    ∷ (codes "show", Text texts.Show)
    ∷ (codes "hide", Text texts.Hide)
    ∷ (codes "show_from", Text texts.ShowFrom)
    ∷ (codes "prune_from", Text texts.PruneFrom)
    ∷ (codes "tagfocus", Text texts.Tagfocus)
    ∷ (codes "tagignore", Text texts.Tagignore)
    ∷ (codes "tagshow", Text texts.Tagshow)
    ∷ (codes "taghide", Text texts.Taghide)
    ∷ (codes "tagroot", Text texts.Tagroot)
    ∷ (codes "tagleaf", Text texts.Tagleaf)
    ∷ (codes "sample_index", Text texts.SampleIndex)
    ∷ (codes "unit", Text texts.Unit)
    ∷ (codes "relative_percentages", Flag flags.RelativePercentages)
    ∷ (codes "divide_by", DivideBy)
    ∷ (codes "source_path", Text texts.SourcePath)
    ∷ (codes "trim_path", Text texts.TrimPath)
    ∷ (codes "workers", Workers)
    ∷ []

-- the formats; `text` and `top` are one
abbrev pub format_names : List (List ℕ × Format)
format_names =
    (codes "top", formats.Flag reports.Top)
    ∷ (codes "text", formats.Flag reports.Top)
    ∷ (codes "tree", formats.Flag reports.Tree)
    ∷ (codes "peek", formats.Pattern patterns.Peek)
    ∷ (codes "list", formats.Pattern patterns.List)
    ∷ (codes "traces", formats.Flag reports.Traces)
    ∷ (codes "tags", formats.Flag reports.Tags)
    ∷ (codes "raw", formats.Flag reports.Raw)
    ∷ (codes "comments", formats.Flag reports.Comments)
    ∷ (codes "proto", formats.Flag reports.Proto)
    ∷ (codes "folded", formats.Flag reports.Folded)
    ∷ (codes "table", formats.Flag reports.Table)
    ∷ (codes "compare", formats.Flag reports.Compare)
    ∷ (codes "changes", formats.Flag reports.Changes)
    ∷ (codes "account", formats.Flag reports.Account)
    ∷ []

-- the options that say which profiles are read
abbrev pub source_names : List (List ℕ × OptionName)
source_names =
    (codes "gen", Gen)
    ∷ (codes "base", Base bases.Base)
    ∷ (codes "diff_base", Base bases.DiffBase)
    ∷ (codes "normalize", Normalize)
    ∷ []

-- the orders
abbrev pub sort_names : List (List ℕ × Order)
sort_names = (codes "flat", orders.Flat) ∷ (codes "cum", orders.Cum) ∷ []

-- the granularities
abbrev pub grain_names : List (List ℕ × Grain)
grain_names =
    (codes "functions", grains.Functions)
    ∷ (codes "filefunctions", grains.FileFunctions)
    ∷ (codes "files", grains.Files)
    ∷ (codes "lines", grains.Lines)
    ∷ (codes "addresses", grains.Addresses)
    ∷ []

-- the sample types that a word alone selects
abbrev pub sample_type_names : List (List ℕ × SampleType)
sample_type_names =
    (codes "inuse_space", types.InuseSpace)
    ∷ (codes "inuse_objects", types.InuseObjects)
    ∷ (codes "alloc_space", types.AllocSpace)
    ∷ (codes "alloc_objects", types.AllocObjects)
    ∷ (codes "contentions", types.Contentions)
    ∷ (codes "total_delay", types.Delay)
    ∷ []

-- the values of a flag
abbrev pub truth_names : List (List ℕ × Bool)
truth_names =
    (codes "true", true)
    ∷ (codes "t", true)
    ∷ (codes "yes", true)
    ∷ (codes "y", true)
    ∷ (codes "1", true)
    ∷ (codes "false", false)
    ∷ (codes "f", false)
    ∷ (codes "no", false)
    ∷ (codes "n", false)
    ∷ (codes "0", false)
    ∷ []

-- the words that alone ask for something else than a report
abbrev pub topic_names : List (List ℕ × Topic)
topic_names =
    (codes "--help", Help)
    ∷ (codes "-help", Help)
    ∷ (codes "-h", Help)
    ∷ (codes "--version", Version)
    ∷ (codes "-version", Version)
    ∷ []

-- a text of these lines
abbrev pub text_of_lines : List (List ℕ) → List ℕ
text_of_lines lines = flat_map (λ (line : List ℕ). line ++ codes "\n") lines

-- the list of the variables, each at its default
abbrev pub default_lines : List (List ℕ)
default_lines =
    codes "sort=flat"
    ∷ codes "granularity=functions"
    ∷ codes "noinlines=false"
    ∷ codes "showcolumns=false"
    ∷ codes "path_tree=false"
    ∷ codes "nodecount=-1"
    ∷ codes "nodefraction=0.005"
    ∷ codes "edgefraction=0.001"
    ∷ codes "focus="
    ∷ codes "ignore="
    ∷ codes "show="
    ∷ codes "hide="
    ∷ codes "show_from="
    ∷ codes "prune_from="
    ∷ codes "tagfocus="
    ∷ codes "tagignore="
    ∷ codes "tagshow="
    ∷ codes "taghide="
    ∷ codes "tagroot="
    ∷ codes "tagleaf="
    ∷ codes "sample_index="
    ∷ codes "unit="
    ∷ codes "relative_percentages=false"
    ∷ codes "divide_by=1"
    ∷ codes "source_path="
    ∷ codes "trim_path="
    ∷ codes "workers=4"
    ∷ []

-- the two lines of the shell's help
abbrev pub shell_help_lines : List (List ℕ)
shell_help_lines =
    codes "Commands: top text tree peek traces list tags raw comments proto options help quit"
    ∷ codes "Set a variable by name=value; add a number, patterns, -patterns or >file to a command."
    ∷ []
