-- The variables by name.
use Rattle.std.specs.Prelude.{ℕ, List, Option}
use Rattle.pp_options.specs.declared.variable.TheConstants.{VARIABLES}
use Rattle.pp_options.specs.declared.variable.Variable.{Variable}
use Rattle.pp_options.specs.Tables.{option_in}

-- the variable of the name
unfoldable pub variable_named : List ℕ → Option Variable
variable_named name = option_in VARIABLES name
