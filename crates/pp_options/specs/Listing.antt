-- The list of variables with their values.
use Rattle.std.specs.Prelude.{ℕ, ◌+◌, ◌==◌, Bool, true, false, List, [], ◌++◌, drop, decimal, codes, if◌then◌else◌}
use Rattle.std.specs.Fmt.{signed_decimal}
use Rattle.std.specs.List.{flat_map}
use Rattle.pp_base.specs.declared.fraction.Fraction.{Fraction as BaseFraction}
use Rattle.pp_model.specs.declared.presentation.Sort.{Sort as Order}
use Rattle.pp_model.specs.declared.presentation.Sort.TheVariants.{Flat, Cum}
use Rattle.pp_model.specs.declared.grouping.Grain.{Grain}
use Rattle.pp_model.specs.declared.grouping.Grain.TheVariants.{Functions, FileFunctions, Files, Lines, Addresses}
use Rattle.pp_model.specs.declared.config.Config.{Config}
use Rattle.pp_model.specs.declared.presentation.Presentation.{Presentation}
use Rattle.pp_options.specs.declared.table.Row.TheVariants as rows
use Rattle.pp_options.specs.declared.variable.TheConstants.{VARIABLES}
use Rattle.pp_options.specs.declared.variable.FlagVariable.{FlagVariable}
use Rattle.pp_options.specs.declared.variable.FlagVariable.TheVariants as flags
use Rattle.pp_options.specs.declared.variable.FractionVariable.{FractionVariable}
use Rattle.pp_options.specs.declared.variable.FractionVariable.TheVariants as fractions
use Rattle.pp_options.specs.declared.variable.TextVariable.{TextVariable}
use Rattle.pp_options.specs.declared.variable.TextVariable.TheVariants as texts
use Rattle.pp_options.specs.declared.variable.Variable.{Variable}
use Rattle.pp_options.specs.declared.variable.Variable.TheVariants.{Sort, Granularity, Flag, Nodecount, Fraction, Text, DivideBy, Workers}
use Rattle.pp_options.specs.Ends.{without_end}
use Rattle.pp_options.specs.Tables.{TableRow}

-- how an order is spelled
abbrev pub sort_text : Order → List ℕ
sort_text Flat = codes "flat"
sort_text Cum = codes "cum"

-- how a granularity is spelled
abbrev pub grain_text : Grain → List ℕ
grain_text Functions = codes "functions"
grain_text FileFunctions = codes "filefunctions"
grain_text Files = codes "files"
grain_text Lines = codes "lines"
grain_text Addresses = codes "addresses"

-- how a flag's value is printed
abbrev pub truth_text : Bool → List ℕ
truth_text true = codes "true"
truth_text false = codes "false"

-- the digit is 0
abbrev pub is_zero_digit : ℕ → Bool
is_zero_digit digit = digit == 48

-- the digits up to the last that isn't 0
abbrev pub without_zeros : List ℕ → List ℕ
without_zeros digits = without_end is_zero_digit digits

-- the nine decimals of a number of billionths, without the zeros at the end: the digits of that number and a billion
-- together, after the first
abbrev pub decimals_text : ℕ → List ℕ
decimals_text billionths = codes "0." ++ without_zeros (drop 1 (decimal (1000000000 + billionths)))

-- how a fraction is printed
abbrev pub fraction_text : BaseFraction → List ℕ
fraction_text part =
    if part.billionths == 0 then codes "0"
    else if part.billionths == 1000000000 then codes "1"
    else decimals_text part.billionths

-- a flag of the configuration
abbrev pub flag_in : Config → FlagVariable → Bool
flag_in c flags.Noinlines = c.grouping.noinlines
flag_in c flags.Showcolumns = c.grouping.showcolumns
flag_in c flags.PathTree = c.presentation.path_tree
flag_in c flags.RelativePercentages = c.presentation.relative_percentages

-- a least part of the total
abbrev pub fraction_in : Presentation → FractionVariable → BaseFraction
fraction_in shown fractions.Nodefraction = shown.nodefraction
fraction_in shown fractions.Edgefraction = shown.edgefraction

-- a text of the configuration
abbrev pub text_in : Config → TextVariable → List ℕ
text_in c texts.Focus = c.filtering.focus
text_in c texts.Ignore = c.filtering.ignore
text_in c texts.Show = c.filtering.show
text_in c texts.Hide = c.filtering.hide
text_in c texts.ShowFrom = c.filtering.show_from
text_in c texts.PruneFrom = c.filtering.prune_from
text_in c texts.Tagfocus = c.filtering.tagfocus
text_in c texts.Tagignore = c.filtering.tagignore
text_in c texts.Tagshow = c.filtering.tagshow
text_in c texts.Taghide = c.filtering.taghide
text_in c texts.Tagroot = c.presentation.tagroot
text_in c texts.Tagleaf = c.presentation.tagleaf
text_in c texts.SampleIndex = c.presentation.sample_index
text_in c texts.Unit = c.presentation.unit
text_in c texts.SourcePath = c.environment.source_path
text_in c texts.TrimPath = c.environment.trim_path

-- how a variable's value is printed
abbrev pub variable_text : Config → Variable → List ℕ
variable_text c Sort = sort_text c.presentation.sort
variable_text c Granularity = grain_text c.grouping.grain
variable_text c (Flag which) = truth_text (flag_in c which)
variable_text c Nodecount = signed_decimal c.presentation.nodecount
variable_text c (Fraction which) = fraction_text (fraction_in c.presentation which)
variable_text c (Text which) = text_in c which
variable_text c DivideBy = decimal c.presentation.divide_by
variable_text c Workers = decimal c.environment.workers

-- a line `NAME=VALUE` for an option, and nothing for another row
abbrev pub option_line : Config → TableRow Variable → List ℕ
option_line c (rows.Option name variable) =
    name.now ++ codes "=" ++ variable_text c variable ++ codes "\n"
option_line c (rows.Text text) = []
option_line c (rows.Also name variable) = []

-- a line for each variable, in their order
unfoldable pub options_text : Config → List ℕ
options_text c = flat_map (option_line c) VARIABLES
