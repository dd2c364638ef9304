-- What percentages are taken of, added up over ranges of samples. No public clause cites it.
use Rattle.std.specs.Prelude.{◌≡◌, ℕ, ◌+◌, List, Option}
use Rattle.std.specs.List.{filter}
use Rattle.pp_model.specs.declared.profile.Sample.{Sample}
use Rattle.pp_model.specs.declared.profile.Profile.{Profile}
use Rattle.pp_model.specs.declared.presentation.Presentation.{Presentation}
use Rattle.pp_base.specs.Capped.{capped}
use Rattle.pp_count.specs.declared.total.Totals.{Totals}
use Rattle.pp_count.specs.Counts.{is_base}
use Rattle.pp_count.specs.Seeing.{absolute_all}

-- The sums are those over these samples.
pub record AreTotals (p : Profile) (presentation : Presentation) (column : Option ℕ)
    (samples : List Sample) (t : Totals) : Type 0 where
  pub all : t.all ≡ capped (absolute_all column presentation.divide_by samples)
  pub base : t.base
      ≡ capped (absolute_all column presentation.divide_by (filter (is_base p) samples))

-- the sums over two ranges
abbrev pub totals_plus : Totals → Totals → Totals
totals_plus t u = record { all = capped (t.all + u.all); base = capped (t.base + u.base) }
