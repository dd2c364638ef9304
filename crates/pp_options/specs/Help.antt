-- What the program tells of itself.
use Rattle.std.specs.Prelude.{ℕ, List, [], ◌∷◌, ◌++◌, Option, None, codes}
use Rattle.std.specs.List.{flat_map}
use Rattle.pp_options.specs.declared.format.TheConstants.{FORMATS}
use Rattle.pp_options.specs.declared.help.TheConstants.{TOPICS, VERSION, USAGE, SHELL_HEADING, SHELL_HELP, SHELL_EXAMPLE}
use Rattle.pp_options.specs.declared.help.Topic.{Topic}
use Rattle.pp_options.specs.declared.help.Topic.TheVariants.{Help, Version}
use Rattle.pp_options.specs.declared.name.TheConstants.{SOURCES}
use Rattle.pp_options.specs.declared.table.Row.TheVariants as rows
use Rattle.pp_options.specs.declared.variable.TheConstants.{VARIABLES}
use Rattle.pp_options.specs.Tables.{TableRow, value_named}

-- the topic that the words ask for, where they are one word alone
unfoldable pub topic_asked : List (List ℕ) → Option Topic
topic_asked [] = None
topic_asked (word ∷ []) = value_named TOPICS word
topic_asked (word ∷ next ∷ words) = None

-- what the help has of a row
abbrev pub help_row : {T : Type 0} → TableRow T → List ℕ
help_row (rows.Text text) = text.now
help_row (rows.Option name value) = codes "  -" ++ name.now
help_row (rows.Also name value) = codes ", -" ++ name.now

-- the formats, the options of sources and the variables
abbrev pub help_options : List ℕ
help_options = flat_map help_row FORMATS ++ flat_map help_row SOURCES ++ flat_map help_row VARIABLES

-- what is told of the shell
abbrev pub help_shell : List ℕ
help_shell = SHELL_HEADING.now ++ SHELL_HELP.now ++ SHELL_EXAMPLE.now

-- what is told of a topic
unfoldable pub topic_text : Topic → List ℕ
topic_text Help = USAGE.now ++ help_options ++ help_shell
topic_text Version = VERSION.now
