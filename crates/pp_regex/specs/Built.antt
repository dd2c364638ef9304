-- When a regular expression is made of a text. No public clause cites it.
use Rattle.std.specs.Prelude.{◌≡◌, ℕ, List, IsUtf8}
use Rattle.regex.specs.Bytes.{regex_source, regex_config, IsReadFromSource}
use Rattle.regex.specs.declared.bytes.regex.Regex.{Regex}
use Rattle.pp_regex.specs.Finds.{options, IsPattern, IsNoPattern}
use Rattle.pp_regex.specs.declared.building.BuildRefusal.{BuildRefusal}
use Rattle.pp_regex.specs.declared.building.BuildRefusal.TheVariants.{NoPattern, Unbuilt, Memory}

-- the regular expression is what the crate regex reads from the text
pub record IsBuiltFrom (text : List ℕ) (regex : Regex) : Type 0 where
  pub utf8 : IsUtf8 text
  pub source : regex_source regex ≡ text
  pub config : regex_config regex ≡ options
  pub read : IsReadFromSource regex

-- why no regular expression was made of the text
abbrev pub IsCauseOf : List ℕ → BuildRefusal → Type 0
IsCauseOf text NoPattern = IsNoPattern text
IsCauseOf text Unbuilt = IsPattern text
IsCauseOf text Memory = Unit {0}
