-- Commands: the words of a line that is no assignment.
use Rattle.std.specs.Prelude.{ℕ, ℤ, pos, negsuc, Bool, true, false, ◌&&◌, List, [], ◌∷◌, drop, length, codes, Option, Some, None, Result, Ok, Err, if◌then◌else◌}
use Rattle.std.specs.Char.{is_ascii_digit}
use Rattle.pp_model.specs.declared.presentation.Sort.TheVariants.{Cum}
use Rattle.pp_model.specs.declared.config.Config.{Config}
use Rattle.pp_model.specs.declared.report.Report.{Report}
use Rattle.pp_model.specs.ReportFacts.{is_short, is_of_labels}
use Rattle.pp_options.specs.declared.format.Format.{Format}
use Rattle.pp_options.specs.declared.format.Format.TheVariants.{Flag, Pattern}
use Rattle.pp_options.specs.declared.setting.Setting.TheVariants as settings
use Rattle.pp_options.specs.declared.variable.TextVariable.{TextVariable}
use Rattle.pp_options.specs.declared.variable.TextVariable.TheVariants as texts
use Rattle.pp_options.specs.Ends.{without_end}
use Rattle.pp_options.specs.Formats.{format_named, flag_report, pattern_report}
use Rattle.pp_options.specs.Settings.{assigned}
use Rattle.pp_options.specs.Tables.{value_named}
use Rattle.pp_shell.specs.declared.command.Command.{Command}
use Rattle.pp_shell.specs.declared.command.Command.TheVariants as commands
use Rattle.pp_shell.specs.declared.fault.LineFault.{LineFault}
use Rattle.pp_shell.specs.declared.fault.LineFault.TheVariants.{UnknownCommand, MissingArgument}
use Rattle.pp_shell.specs.declared.name.TheConstants.{PLAINS}
use Rattle.pp_shell.specs.declared.name.Plain.{Plain}
use Rattle.pp_shell.specs.declared.name.Plain.TheVariants.{Quit, Options, Help}
use Rattle.pp_shell.specs.declared.narrowing.Narrowing.{Narrowing}
use Rattle.pp_shell.specs.Arguments.{arguments, together}

-- the commands that take no words, by name
abbrev pub plain_names : List (List ℕ × Plain)
plain_names =
    (codes "q", Quit)
    ∷ (codes "quit", Quit)
    ∷ (codes "exit", Quit)
    ∷ (codes "o", Options)
    ∷ (codes "options", Options)
    ∷ (codes "help", Help)
    ∷ []

-- the command of the name, where it takes no words
unfoldable pub plain_named : List ℕ → Option Plain
plain_named name = value_named PLAINS name

-- such a command
abbrev pub plain_command : Plain → Command
plain_command Quit = commands.Quit
plain_command Options = commands.Options
plain_command Help = commands.Help

-- the number of rows is the given one
abbrev pub with_rows : Option ℕ → Config → Config
with_rows None c = c
with_rows (Some rows) c = assigned c (settings.Nodecount (pos rows))

-- the order is by cum, where that is asked for
abbrev pub with_order : Bool → Config → Config
with_order false c = c
with_order true c = assigned c (settings.Sort Cum)

-- the pattern takes the place of the variable's own, where one is given
abbrev pub with_pattern : TextVariable → List ℕ → Config → Config
with_pattern which [] c = c
with_pattern which (byte ∷ bytes) c = assigned c (settings.Text which (byte ∷ bytes))

-- the number of rows is the report's own
abbrev pub is_own : ℤ → Bool
is_own (negsuc n) = true
is_own (pos n) = false

-- in the shell the own number of rows of top and compare is 10
abbrev pub with_few_rows : Report → Config → Config
with_few_rows report c =
    if is_short report && is_own c.presentation.nodecount
    then assigned c (settings.Nodecount (pos 10)) else c

-- the variable whose place added patterns take
abbrev pub focus_variable : Report → TextVariable
focus_variable report = if is_of_labels report then texts.Tagfocus else texts.Focus

-- the variable whose place patterns after a dash take
abbrev pub ignore_variable : Report → TextVariable
ignore_variable report = if is_of_labels report then texts.Tagignore else texts.Ignore

-- the configuration of one report, as the words after its command want it
abbrev pub narrowed : Report → Narrowing → Config → Config
narrowed report n c =
    with_few_rows report
    (with_pattern (ignore_variable report) n.ignore
    (with_pattern (focus_variable report) n.focus (with_order n.by_cum (with_rows n.rows c))))

-- a report with what the words after it ask for, or their first fault
abbrev pub run_with : Report → Config → Result Narrowing LineFault → Result Command LineFault
run_with report c (Err fault) = Err fault
run_with report c (Ok n) = Ok (commands.Run report (narrowed report n c) n.output)

-- a report with the words after it
abbrev pub run : Report → List (List ℕ) → Config → Result Command LineFault
run report words c = run_with report c (together (arguments words))

-- a report with its words, of which the first is its pattern where it has one
abbrev pub report : Format → List ℕ → List (List ℕ) → Config → Result Command LineFault
report (Flag flag) name words c = run (flag_report flag) words c
report (Pattern format) name [] c = Err (MissingArgument name)
report (Pattern format) name (pattern ∷ words) c = run (pattern_report format pattern) words c

-- a report, where the name is a format's; `first` is the whole first word
abbrev pub format_command : List ℕ → List ℕ → Option Format → List (List ℕ) → Config
    → Result Command LineFault
format_command first name None words c = Err (UnknownCommand first)
format_command first name (Some format) words c = report format name words c

-- the first word without the digits at its end
abbrev pub without_digits : List ℕ → List ℕ
without_digits word = without_end is_ascii_digit word

-- the digits at the end of the first word
abbrev pub report_digits : List ℕ → List ℕ
report_digits word = drop (length (without_digits word)) word

-- digits right after the name are the first of the words
abbrev pub with_digits : List ℕ → List (List ℕ) → List (List ℕ)
with_digits [] words = words
with_digits (digit ∷ digits) words = (digit ∷ digits) ∷ words

-- a report by its first word and the others
abbrev pub report_command : List ℕ → List (List ℕ) → Config → Result Command LineFault
report_command first words c =
    let name = without_digits first in
    format_command first name (format_named name) (with_digits (report_digits first) words) c

-- a command that takes no words, or a report
abbrev pub plain_or_report : Option Plain → List ℕ → List (List ℕ) → Config
    → Result Command LineFault
plain_or_report (Some plain) first words c = Ok (plain_command plain)
plain_or_report None first words c = report_command first words c

-- What the words of a line ask for.
unfoldable pub command : List (List ℕ) → Config → Result Command LineFault
command [] c = Ok commands.Nothing
command (first ∷ words) c = plain_or_report (plain_named first) first words c
