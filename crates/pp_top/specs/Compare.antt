-- The text of the compare report: what each key comes to in a base and in a source, and how far they differ. The values
-- of the base's samples are negated, so that the sums over all samples are the differences.
use Rattle.std.specs.Prelude.{ℕ, ℤ, pos, neg_ℤ, ◌+ℤ◌, nat_abs, not, ◌&&◌, List, ◌++◌, codes, length, Option, if◌then◌else◌}
use Rattle.std.specs.List.{flat_map}
use Rattle.std.specs.Ordering.{int_eq}
use Rattle.pp_model.specs.declared.config.Config.{Config}
use Rattle.pp_model.specs.declared.presentation.Sort.{Sort}
use Rattle.pp_model.specs.declared.presentation.Sort.TheVariants as sorts
use Rattle.pp_model.specs.declared.profile.Profile.{Profile}
use Rattle.pp_model.specs.declared.profile.Sample.{Sample}
use Rattle.pp_model.specs.Finders.{Finders}
use Rattle.pp_model.specs.FrameTexts.{Written}
use Rattle.pp_units.specs.Head.{Facts, facts_text}
use Rattle.pp_units.specs.Numbers.{percent_text, right_text}
use Rattle.pp_units.specs.Rows.{value_column, name_end, dropped_line, limited_line}
use Rattle.pp_units.specs.Rows as lines
use Rattle.pp_units.specs.Shown.{Shown}
use Rattle.pp_grain.specs.Keys.{key_cmp}
use Rattle.pp_grain.specs.Naming.{name_text}
use Rattle.pp_count.specs.Counted.{report_samples}
use Rattle.pp_count.specs.Counts.{filtered_samples}
use Rattle.pp_count.specs.Sums.{Seen, flat, cum}
use Rattle.pp_graph.specs.Trim.{candidate_keys, report_keys, light_nodes}
use Rattle.pp_count.specs.Base.{base_samples, base_report_samples, selected_all}
use Rattle.pp_top.specs.declared.difference.Difference.{Difference}

-- The figures of a base and of a source, where the base's negated values have the first sum, and the values of both the
-- second.
abbrev pub difference_of : ℤ → ℤ → Difference
difference_of base change =
    record { before = neg_ℤ base; after = neg_ℤ base +ℤ change; change = change }

-- the change in hundredths of the base's absolute figure, and `new` where the base has nothing and there is a change
abbrev pub change_text : Difference → List ℕ
change_text d =
    if int_eq d.before (pos 0) && not (int_eq d.change (pos 0)) then codes "new"
    else percent_text d.change (nat_abs d.before)

-- a value in its column, before the next one
abbrev pub spaced_value : Shown → ℤ → List ℕ
spaced_value unit value = value_column unit value ++ codes " "

-- The four columns of a row: before, after, change and change%.
abbrev pub difference_columns : Shown → Difference → List ℕ
difference_columns unit d =
    spaced_value unit d.before ++ spaced_value unit d.after ++ spaced_value unit d.change
    ++ right_text 8 (change_text d)

-- What a row says: how its figures differ, and of what they are.
pub record ComparedRow : Type 0 where
  pub figures : Difference
  pub name : List ℕ

-- the line of a row
abbrev pub difference_line : Shown → ComparedRow → List ℕ
difference_line unit row = difference_columns unit row.figures ++ name_end row.name

-- what keys are compared and sorted by
abbrev pub figure_name : Sort → List ℕ
figure_name sorts.Flat = codes "flat"
figure_name sorts.Cum = codes "cum"

-- the heading of the table
abbrev pub compare_heading : Sort → List ℕ
compare_heading sort = codes "    before      after     change  change%" ++ name_end (figure_name sort)

-- what a key is compared by, over these samples
abbrev pub figure : Sort → List (Seen Written) → Written → ℤ
figure sorts.Flat samples k = flat key_cmp samples k
figure sorts.Cum samples k = cum key_cmp samples k

-- the sum of the selected values of those of the samples that the filters leave
abbrev pub filtered_whole : Profile → Finders → Config → Option ℕ → List Sample → ℤ
filtered_whole p f config column samples =
    selected_all column config.presentation.divide_by
    (filtered_samples p f config.filtering samples)

-- the row of all samples that the filters leave
abbrev pub whole_row : Profile → Finders → Config → Option ℕ → ComparedRow
whole_row p f config column = record {
  figures = difference_of (filtered_whole p f config column (base_samples p)) (filtered_whole p f config column p.sample);
  name = codes "(all)";
}

-- the row of a key
abbrev pub compared_row : Profile → Finders → Config → Option ℕ → Written → ComparedRow
compared_row p f config column k = record {
  figures =
      difference_of (figure config.presentation.sort (base_report_samples p f config column) k)
      (figure config.presentation.sort (report_samples p f config column) k);
  name = name_text k;
}

-- The text of the compare report with this limit, where 0 is none: its head, the heading, the row of all samples, and a
-- row for each key that a top report of the same limit shows.
abbrev pub compare_text : Profile → Finders → Config → Option ℕ → ℕ → Facts → List ℕ
compare_text p f config column limit h =
    let keys = report_keys p f config column limit in
    facts_text h
    ++ (dropped_line lines.dropped_nodes (light_nodes p f config column)
    ++ limited_line (length keys) (length (candidate_keys p f config column)))
    ++ compare_heading config.presentation.sort
    ++ difference_line h.unit (whole_row p f config column)
    ++ flat_map (λ k. difference_line h.unit (compared_row p f config column k)) keys
