-- The figures of a report with what its head says.
use Rattle.std.specs.Prelude.{ℕ, ℤ, List, Option, option_map}
use Rattle.pp_model.specs.declared.config.Config.{Config}
use Rattle.pp_model.specs.declared.profile.Profile.{Profile}
use Rattle.pp_model.specs.Finders.{Finders}
use Rattle.pp_share.specs.Header.{TypeText}
use Rattle.pp_count.specs.Column.{column_of}
use Rattle.pp_graph.specs.Figures.{Figures, figures}
use Rattle.pp_report.specs.Heads.{column_type, first_file}

-- What a report says of a profile by one column.
pub record HeadedFigures : Type 0 where
  -- the column, none where the profile has no sample types, and the name and the unit of its type
  pub column : Option ℕ
  pub value_type : Option TypeText
  -- the path of the first mapping's file, or nothing
  pub file : List ℕ
  -- in nanoseconds
  pub duration : ℤ
  pub figures : Figures

-- The figures and the head of a report on the profile, by what its patterns find.
abbrev pub headed_figures : Profile → Finders → Config → Option ℕ → HeadedFigures
headed_figures p f config column = record {
  column = column;
  value_type = column_type p column;
  file = first_file p;
  duration = p.duration_nanos;
  figures = figures p f config column;
}

-- Those of the column that the configuration asks for. Where it asks for no sample type, None is all that there is.
abbrev pub asked_figures : Profile → Finders → Config → Option HeadedFigures
asked_figures p f config =
    option_map (headed_figures p f config) (column_of p config.presentation.sample_index)
