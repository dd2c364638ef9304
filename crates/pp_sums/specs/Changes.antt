-- What the changes that a comparison shows add up to.
use Rattle.std.specs.Prelude.{◌≡◌, ℕ, ◌+ℤ◌, Bool, not, List, ◌++◌, map, Option}
use Rattle.std.specs.List.{flat_map}
use Rattle.pp_model.specs.declared.config.Config.{Config}
use Rattle.pp_model.specs.declared.presentation.Sort.TheVariants.{Flat}
use Rattle.pp_model.specs.declared.profile.Profile.{Profile}
use Rattle.pp_model.specs.Finders.{Finders}
use Rattle.pp_count.specs.Sums.{sum_where}
use Rattle.pp_count.specs.Seeing.{seen_samples}
use Rattle.pp_graph.specs.Trim.{all_report_keys}
use Rattle.pp_graph.specs.Trimmed.{int_sum}
use Rattle.pp_top.specs.Changes.{change_line, changes_heading, changes_text}
use Rattle.pp_top.specs.Compare.{ComparedRow, compared_row, whole_row}
use Rattle.pp_laws.specs.Figures.{has_frames}

-- no frame of the sample counts
abbrev pub lacks_frames : {K : Type 0} → List K → Bool
lacks_frames keys = not (has_frames keys)

-- a row for each key that occurs, in report order
abbrev pub changed_rows : Profile → Finders → Config → Option ℕ → List ComparedRow
changed_rows p f config column = map (compared_row p f config column) (all_report_keys p f config column)

-- Without a limit the changes report shows these rows. Where flats are compared, their changes add up to the change in
-- the line for all. For that, the values of the filtered samples of which no frame counts are added to them.
pub record ChangesAccount (p : Profile) (f : Finders) (config : Config) (column : Option ℕ) : Type 0 where
  pub text : (unit : List ℕ)
      → changes_text p f config column 0 unit
      ≡ changes_heading unit ++ flat_map change_line (changed_rows p f config column)
  pub changes : config.presentation.sort ≡ Flat
      → int_sum (map (λ row. row.figures.change) (changed_rows p f config column))
      +ℤ sum_where lacks_frames (seen_samples p f config column p.sample)
      ≡ (whole_row p f config column).figures.change

-- So it is of every profile.
abbrev pub ChangesAddUp : Type 0
ChangesAddUp = (p : Profile) (f : Finders) (config : Config) (column : Option ℕ) → ChangesAccount p f config column
