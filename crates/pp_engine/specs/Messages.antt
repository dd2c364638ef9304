-- The lines that the session itself tells on standard error.
use Rattle.std.specs.Prelude.{ℕ, List, ◌++◌, codes, decimal}
use Rattle.pp_options.specs.declared.usage.UsageKind.{UsageKind}
use Rattle.pp_options.specs.declared.usage.UsageKind.TheVariants.{UnknownOption, BadValue, MissingValue, TwoFormats, NoSource, TooMany, BaseTwice, NormalizeAlone}
use Rattle.pp_options.specs.declared.usage.UsageFault.{UsageFault}
use Rattle.pp_shell.specs.declared.fault.LineFault.{LineFault}
use Rattle.pp_shell.specs.declared.fault.LineFault.TheVariants.{UnknownCommand, BadAssignment, MissingArgument, EmptyRedirect, PipeNotServed, LineTooLong}

-- what is wrong with a word
unfoldable pub usage_text : UsageKind → List ℕ
usage_text UnknownOption = codes "unknown option\n"
usage_text BadValue = codes "bad value\n"
usage_text MissingValue = codes "missing value\n"
usage_text TwoFormats = codes "two formats\n"
usage_text NoSource = codes "no source\n"
usage_text TooMany = codes "too many sources\n"
usage_text BaseTwice = codes "both -base and -diff_base\n"
usage_text NormalizeAlone = codes "-normalize without a base\n"

-- the line on the first word that is wrong
unfoldable pub usage_line : UsageFault → List ℕ
usage_line fault =
    (codes "pprof: word " ++ decimal fault.word) ++ (codes ": " ++ usage_text fault.kind)

-- the line on a line of the shell
unfoldable pub line_fault_line : LineFault → List ℕ
line_fault_line (UnknownCommand word) = (codes "pprof: unknown command: " ++ word) ++ codes "\n"
line_fault_line (BadAssignment name) = (codes "pprof: bad assignment: " ++ name) ++ codes "\n"
line_fault_line (MissingArgument name) = (codes "pprof: " ++ name) ++ codes " needs an argument\n"
line_fault_line EmptyRedirect = codes "pprof: no file after >\n"
line_fault_line PipeNotServed = codes "pprof: pipes are not served\n"
line_fault_line LineTooLong = codes "pprof: line too long\n"

-- the line on a path that can't be written
unfoldable pub locked_line : List ℕ → List ℕ
locked_line path = (codes "pprof: " ++ path) ++ codes ": cannot be written\n"

-- the line on an input that is too long
unfoldable pub input_too_long_line : List ℕ
input_too_long_line = codes "pprof: standard input is longer than 16777216 bytes\n"
