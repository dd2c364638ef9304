-- The names of options.
use Rattle.std.specs.Prelude.{ℕ, Bool, true, false, List, Option, option_map}
use Rattle.std.specs.Option.{option_or}
use Rattle.pp_options.specs.declared.variable.Variable.TheVariants.{Flag}
use Rattle.pp_options.specs.declared.format.Format.TheVariants.{Pattern}
use Rattle.pp_options.specs.declared.format.Format.TheVariants as formats
use Rattle.pp_options.specs.declared.name.TheConstants.{SOURCES}
use Rattle.pp_options.specs.declared.name.Choice.{Choice as ChoiceName}
use Rattle.pp_options.specs.declared.name.Choice.TheVariants as choices
use Rattle.pp_options.specs.declared.name.OptionName.{OptionName}
use Rattle.pp_options.specs.declared.name.OptionName.TheVariants.{Variable, Choice, SampleType, Format, Base, Gen, Normalize}
use Rattle.pp_options.specs.Tables.{option_in}
use Rattle.pp_options.specs.Values.{sort_named, grain_named}
use Rattle.pp_options.specs.Variables.{variable_named}
use Rattle.pp_options.specs.Formats.{format_named}
use Rattle.pp_options.specs.SampleTypes.{sample_type_named}

-- the order or the granularity of the name
unfoldable pub choice_named : List ℕ → Option ChoiceName
choice_named name =
    option_or (option_map choices.Sort (sort_named name))
    (option_map choices.Granularity (grain_named name))

-- what the name of an option stands for
unfoldable pub option_named : List ℕ → Option OptionName
option_named name =
    option_or (option_map Variable (variable_named name))
    (option_or (option_map Choice (choice_named name))
    (option_or (option_map SampleType (sample_type_named name))
    (option_or (option_map Format (format_named name)) (option_in SOURCES name))))

-- the option has a value even where none stands after `=`; the others are flags
abbrev pub needs_value : OptionName → Bool
needs_value (Variable (Flag which)) = false
needs_value (Variable variable) = true
needs_value (Choice choice) = false
needs_value (SampleType kind) = false
needs_value (Format (Pattern format)) = true
needs_value (Format (formats.Flag format)) = false
needs_value (Base kind) = true
needs_value Gen = true
needs_value Normalize = false
