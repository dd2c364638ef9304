-- Trimming only hides.
use Rattle.std.specs.Prelude.{◌≡◌, ℕ, Option}
use Rattle.std.specs.List.{filter}
use Rattle.pp_base.specs.declared.fraction.Fraction.{Fraction}
use Rattle.pp_model.specs.declared.config.Config.{Config}
use Rattle.pp_model.specs.declared.profile.Profile.{Profile}
use Rattle.pp_model.specs.Finders.{Finders}
use Rattle.pp_count.specs.Counts.{total_of}
use Rattle.pp_count.specs.Counted.{report_samples}
use Rattle.pp_graph.specs.Figures.{figures}
use Rattle.pp_graph.specs.Trim.{report_keys, shown_keys, is_heavy_key}

-- the variables with this nodefraction
abbrev pub at_nodefraction : Fraction → Config → Config
at_nodefraction fraction config =
    record config { presentation = record config.presentation { nodefraction = fraction } }

-- The rows are those of the report without limit, by this fraction, that are heavy enough, in their order, and of
-- these the first. All figures are taken from the same samples and the same total.
pub record OnlyHides (none : Fraction) (p : Profile) (f : Finders) (config : Config) (column : Option ℕ)
    (limit : ℕ) : Type 0 where
  pub rows : report_keys p f config column limit
      ≡ shown_keys limit (filter
      (is_heavy_key (figures p f config column) config.presentation)
      (report_keys p f (at_nodefraction none config) column 0))
  pub samples : report_samples p f (at_nodefraction none config) column ≡ report_samples p f config column
  pub total : total_of p f (at_nodefraction none config) column ≡ total_of p f config column

-- So it is for every nodecount and nodefraction, against the report without limit and with a nodefraction of 0.
abbrev pub TrimmingHides : Type 0
TrimmingHides =
    (none : Fraction) (p : Profile) (f : Finders) (config : Config) (column : Option ℕ) (limit : ℕ)
    → none.billionths ≡ 0 → OnlyHides none p f config column limit
