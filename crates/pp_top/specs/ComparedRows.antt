-- The rows as they are made of the sums of names by their numbers. No public clause cites this file.
use Rattle.std.specs.Prelude.{ℕ, ℤ, neg_ℤ, ◌-ℤ◌, List, ◌++◌, codes, length}
use Rattle.std.specs.Int.{w64, int_wrap}
use Rattle.std.specs.List.{flat_map}
use Rattle.pp_model.specs.declared.presentation.Sort.{Sort}
use Rattle.pp_model.specs.declared.presentation.Sort.TheVariants as sorts
use Rattle.pp_model.specs.declared.profile.Profile.{Profile}
use Rattle.pp_units.specs.Head.{Facts, facts_text}
use Rattle.pp_units.specs.Rows.{dropped_line, limited_line}
use Rattle.pp_units.specs.Rows as lines
use Rattle.pp_grain.specs.Naming.{name_text}
use Rattle.pp_count.specs.declared.sums.Sums.{Sums}
use Rattle.pp_count.specs.Table.{written_key}
use Rattle.pp_graph.specs.declared.ranking.Ranked.{Ranked}
use Rattle.pp_graph.specs.Ranks.{sum_of_name}
use Rattle.pp_count.specs.declared.base.BaseSums.{BaseSums}
use Rattle.pp_top.specs.declared.difference.Difference.{Difference}
use Rattle.pp_top.specs.Compare.{ComparedRow, difference_line, compare_heading}

-- a difference as the machine has it
abbrev pub wrapped : ℤ → ℤ → Difference
wrapped base change = record {
  before = int_wrap w64 (neg_ℤ base);
  after = int_wrap w64 (change -ℤ base);
  change = change;
}

-- what is compared of the name with this number
abbrev pub figures_at : Sort → Sums → BaseSums → ℕ → Difference
figures_at sorts.Flat sums base n = wrapped (sum_of_name base.flat n) (sum_of_name sums.flat n)
figures_at sorts.Cum sums base n = wrapped (sum_of_name base.cum n) (sum_of_name sums.cum n)

-- its row
abbrev pub compared_at : Profile → Sort → Sums → BaseSums → ℕ → ComparedRow
compared_at p sort sums base n = record {
  figures = figures_at sort sums base n;
  name = name_text (written_key p sums.names n);
}

-- the row of all samples, whose values have this sum
abbrev pub whole_at : BaseSums → ℤ → ComparedRow
whole_at base change = record { figures = wrapped base.whole change; name = codes "(all)" }

-- what is written of a ranking, where the values of all samples have this sum
abbrev pub compared_ranking : Profile → Sort → Sums → BaseSums → ℤ → Ranked → Facts → List ℕ
compared_ranking p sort sums base change t h =
    facts_text h
    ++ (dropped_line lines.dropped_nodes t.dropped_nodes ++ limited_line (length t.order) t.candidates)
    ++ compare_heading sort ++ difference_line h.unit (whole_at base change)
    ++ flat_map (λ n. difference_line h.unit (compared_at p sort sums base n)) t.order
