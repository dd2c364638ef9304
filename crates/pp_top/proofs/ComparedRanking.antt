-- What is written of a ranking is the report.
use Rattle.std.proofs.Common.{◌≡◌, ℕ, ◌<◌, ◌^◌, ℤ, List, ◌++◌, length, Option, sym, ap, ◌∙◌, codes}
use Rattle.std.specs.List.{flat_map}
use Rattle.std.proofs.lemmas.List.{length-map}
use Rattle.pp_model.specs.declared.config.Config.{Config}
use Rattle.pp_model.specs.declared.loaded.Loaded.{Loaded}
use Rattle.pp_model.specs.declared.verdicts.Verdicts.{Verdicts}
use Rattle.pp_model.specs.Finders.{Finders}
use Rattle.pp_model.specs.FrameTexts.{Written}
use Rattle.pp_units.specs.Head.{Facts, facts_text}
use Rattle.pp_units.specs.Rows.{dropped_line, limited_line}
use Rattle.pp_units.specs.Rows as lines
use Rattle.pp_count.specs.declared.counted.Counted.{Counted}
use Rattle.pp_count.specs.Counted.{CanCount, IsCountedOf}
use Rattle.pp_count.specs.Seeing.{HoldsFilters, absolute_all}
use Rattle.pp_count.specs.Table.{written_key}
use Rattle.pp_count.proofs.Kept.{values_fit}
use Rattle.pp_graph.specs.declared.ranking.Ranked.{Ranked}
use Rattle.pp_graph.specs.Trim.{report_keys}
use Rattle.pp_graph.specs.Trimmed.{IsRankedOf, IsWholeRanking}
use Rattle.pp_count.specs.Base.{AreBaseSums}
use Rattle.pp_count.specs.declared.base.BaseSums.{BaseSums}
use Rattle.pp_top.specs.Compare.{filtered_whole, compare_heading, difference_line, compared_row, whole_row, compare_text}
use Rattle.pp_top.specs.Changes.{change_line, changes_heading, changes_text}
use Rattle.pp_top.specs.ComparedRows.{wrapped, compared_at, compared_ranking}
use Rattle.pp_top.proofs.Fitting.{whole_differs}
use Rattle.pp_top.proofs.Naming.{rows_are}

pub ranked_is : (l : Loaded) (v : Verdicts) (config : Config) (column : Option ℕ) (limit : ℕ) (f : Finders) (c : Counted) (base : BaseSums) (change : ℤ) (t : Ranked) (h : Facts)
    → CanCount l.profile v config.filtering column → IsCountedOf l v config column c → IsRankedOf l v config column limit c t → HoldsFilters l v config.filtering f
    → AreBaseSums l.profile f config column c.sums base → change ≡ filtered_whole l.profile f config column l.profile.sample
    → compared_ranking l.profile config.presentation.sort c.sums base change t h ≡ compare_text l.profile f config column limit h
ranked_is l v config column limit f c base change t h can counted ranked holds base_are is_whole =
    let small : absolute_all column config.presentation.divide_by l.profile.sample < 2 ^ 63 = values_fit l.profile column config.presentation.divide_by can.countable can.column in
    let keys : List Written = report_keys l.profile f config column limit in
    let rows = rows_are l.profile f config column small c.sums base (counted.sums_are f holds) base_are (difference_line h.unit) t.order ranked.below
    ∙ ap (flat_map (λ k. difference_line h.unit (compared_row l.profile f config column k))) (ranked.keys f holds) in
    let count : length t.order ≡ length keys =
    sym (length-map t.order (written_key l.profile c.sums.names)) ∙ ap length (ranked.keys f holds) in
    let figures : wrapped base.whole change ≡ (whole_row l.profile f config column).figures =
    (λ i. wrapped (base_are.whole i) (is_whole i)) ∙ whole_differs l.profile f config column small in
    λ i.
    facts_text h
    ++ (dropped_line lines.dropped_nodes (ranked.dropped_nodes f holds i) ++ limited_line (count i) (ranked.candidates f holds i))
    ++ compare_heading config.presentation.sort ++ difference_line h.unit (record { figures = figures i; name = codes "(all)" })
    ++ rows i

pub changes_are : (l : Loaded) (v : Verdicts) (config : Config) (column : Option ℕ) (limit : ℕ) (f : Finders) (c : Counted) (base : BaseSums) (t : Ranked) (unit : List ℕ)
    → CanCount l.profile v config.filtering column → IsCountedOf l v config column c → IsWholeRanking l v config column limit c t → HoldsFilters l v config.filtering f
    → AreBaseSums l.profile f config column c.sums base
    → changes_heading unit ++ flat_map (λ n. change_line (compared_at l.profile config.presentation.sort c.sums base n)) t.order ≡ changes_text l.profile f config column limit unit
changes_are l v config column limit f c base t unit can counted ranked holds base_are =
    let small : absolute_all column config.presentation.divide_by l.profile.sample < 2 ^ 63 = values_fit l.profile column config.presentation.divide_by can.countable can.column in
    ap (λ rows. changes_heading unit ++ rows)
    (rows_are l.profile f config column small c.sums base (counted.sums_are f holds) base_are change_line t.order ranked.below
    ∙ ap (flat_map (λ k. change_line (compared_row l.profile f config column k))) (ranked.keys f holds))
