-- Variables with their values, and how a configuration is changed by them.
use Rattle.std.specs.Prelude.{ℕ, ◌^◌, negsuc, int_le, Bool, true, false, ◌&&◌, ◌||◌, List, Option, Some, None, option_map, nat_le, nat_lt, bytes_eq, codes, if◌then◌else◌}
use Rattle.std.proofs.Common.{lit≤}
use Rattle.pp_base.specs.declared.fraction.Fraction.{Fraction as BaseFraction}
use Rattle.pp_model.specs.declared.config.Config.{Config}
use Rattle.pp_model.specs.declared.presentation.Presentation.{Presentation}
use Rattle.pp_model.specs.Changes.{with_nodecount, with_divide_by, with_workers, fraction_or}
use Rattle.pp_units.specs.Fractions.{fraction_of}
use Rattle.pp_options.specs.declared.variable.FlagVariable.{FlagVariable}
use Rattle.pp_options.specs.declared.variable.FlagVariable.TheVariants as flags
use Rattle.pp_options.specs.declared.variable.FractionVariable.{FractionVariable}
use Rattle.pp_options.specs.declared.variable.FractionVariable.TheVariants as fractions
use Rattle.pp_options.specs.declared.variable.TextVariable.{TextVariable}
use Rattle.pp_options.specs.declared.variable.TextVariable.TheVariants as texts
use Rattle.pp_options.specs.declared.variable.Variable.{Variable}
use Rattle.pp_options.specs.declared.variable.Variable.TheVariants.{Sort, Granularity, Flag, Nodecount, Fraction, Text, DivideBy, Workers}
use Rattle.pp_options.specs.declared.setting.Setting.{Setting}
use Rattle.pp_options.specs.declared.setting.Setting.TheVariants as set
use Rattle.pp_options.specs.Values.{sort_named, grain_named, truth_of, whole_number, nodecount_of}

-- the fraction of a number of billionths, which is at most 1
abbrev pub fraction : ℕ → BaseFraction
fraction billionths = fraction_or (record { billionths = 0; at_most_one = lit≤ tt }) billionths

-- the two words that ask other programs to pick a unit
abbrev pub is_reserved : List ℕ → Bool
is_reserved unit = bytes_eq unit (codes "auto") || bytes_eq unit (codes "minimum")

-- the variable is the unit
abbrev pub is_unit : TextVariable → Bool
is_unit texts.Unit = true
is_unit which = false

-- any text, but for those two words at the unit
abbrev pub text_value : TextVariable → List ℕ → Option (List ℕ)
text_value which text = if is_unit which && is_reserved text then None else Some text

-- the variable with the value that a text spells, or none where it can't have that value
unfoldable pub setting_of : Variable → List ℕ → Option Setting
setting_of Sort text = option_map set.Sort (sort_named text)
setting_of Granularity text = option_map set.Granularity (grain_named text)
setting_of (Flag which) text = option_map (set.Flag which) (truth_of text)
setting_of Nodecount text = option_map set.Nodecount (nodecount_of text)
setting_of (Fraction which) text =
    option_map (λ n. set.Fraction which (fraction n)) (fraction_of text)
setting_of (Text which) text = option_map (set.Text which) (text_value which text)
setting_of DivideBy text = option_map set.DivideBy (whole_number 1 9223372036854775807 text)
setting_of Workers text = option_map set.Workers (whole_number 1 64 text)

-- the number lies in the variable's range
abbrev pub is_fitting : Setting → Bool
is_fitting (set.Nodecount rows) = int_le (negsuc 0) rows
is_fitting (set.DivideBy divisor) = nat_le 1 divisor && nat_lt divisor (2 ^ 63)
is_fitting (set.Workers workers) = nat_le 1 workers && nat_le workers 64
is_fitting setting = true

-- the flag turned on or off
abbrev pub with_flag : Config → FlagVariable → Bool → Config
with_flag c flags.Noinlines on = record c { grouping = record c.grouping { noinlines = on } }
with_flag c flags.Showcolumns on = record c { grouping = record c.grouping { showcolumns = on } }
with_flag c flags.PathTree on = record c { presentation = record c.presentation { path_tree = on } }
with_flag c flags.RelativePercentages on =
    record c { presentation = record c.presentation { relative_percentages = on } }

-- another least part of the total
abbrev pub with_fraction : Presentation → FractionVariable → BaseFraction → Presentation
with_fraction shown fractions.Nodefraction part = record shown { nodefraction = part }
with_fraction shown fractions.Edgefraction part = record shown { edgefraction = part }

-- another text
abbrev pub with_text : Config → TextVariable → List ℕ → Config
with_text c texts.Focus text = record c { filtering = record c.filtering { focus = text } }
with_text c texts.Ignore text = record c { filtering = record c.filtering { ignore = text } }
with_text c texts.Show text = record c { filtering = record c.filtering { show = text } }
with_text c texts.Hide text = record c { filtering = record c.filtering { hide = text } }
with_text c texts.ShowFrom text = record c { filtering = record c.filtering { show_from = text } }
with_text c texts.PruneFrom text = record c { filtering = record c.filtering { prune_from = text } }
with_text c texts.Tagfocus text = record c { filtering = record c.filtering { tagfocus = text } }
with_text c texts.Tagignore text = record c { filtering = record c.filtering { tagignore = text } }
with_text c texts.Tagshow text = record c { filtering = record c.filtering { tagshow = text } }
with_text c texts.Taghide text = record c { filtering = record c.filtering { taghide = text } }
with_text c texts.Tagroot text =
    record c { presentation = record c.presentation { tagroot = text } }
with_text c texts.Tagleaf text =
    record c { presentation = record c.presentation { tagleaf = text } }
with_text c texts.SampleIndex text =
    record c { presentation = record c.presentation { sample_index = text } }
with_text c texts.Unit text = record c { presentation = record c.presentation { unit = text } }
with_text c texts.SourcePath text =
    record c { environment = record c.environment { source_path = text } }
with_text c texts.TrimPath text =
    record c { environment = record c.environment { trim_path = text } }

-- the configuration in which the variable has the value, and all others are as they were
unfoldable pub assigned : Config → Setting → Config
assigned c (set.Sort order) = record c { presentation = record c.presentation { sort = order } }
assigned c (set.Granularity grain) = record c { grouping = record c.grouping { grain = grain } }
assigned c (set.Flag which on) = with_flag c which on
assigned c (set.Nodecount rows) = record c { presentation = with_nodecount c.presentation rows }
assigned c (set.Fraction which part) =
    record c { presentation = with_fraction c.presentation which part }
assigned c (set.Text which text) = with_text c which text
assigned c (set.DivideBy divisor) =
    record c { presentation = with_divide_by c.presentation divisor }
assigned c (set.Workers workers) = record c { environment = with_workers c.environment workers }
