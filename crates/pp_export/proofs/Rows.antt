-- The rows of a table are those of its keys.
use Rattle.std.proofs.Common.{◌≡◌, ℕ, cond, List, ◌++◌, map, take, Option, sym, ap, ◌∙◌, arith}
use Rattle.std.specs.List.{take-map}
use Rattle.std.proofs.lemmas.Bool.{ne_eqb}
use Rattle.pp_model.specs.declared.config.Config.{Config}
use Rattle.pp_model.specs.declared.loaded.Loaded.{Loaded}
use Rattle.pp_model.specs.declared.verdicts.Verdicts.{Verdicts}
use Rattle.pp_model.specs.Finders.{Finders}
use Rattle.pp_model.specs.FrameTexts.{Written}
use Rattle.pp_count.specs.declared.counted.Counted.{Counted}
use Rattle.pp_count.specs.Counted.{IsCountedOf, report_samples}
use Rattle.pp_count.specs.Seeing.{HoldsFilters}
use Rattle.pp_graph.specs.declared.ranking.Ranked.{Ranked}
use Rattle.pp_graph.specs.KeyRows.{KeyRow, row_at}
use Rattle.pp_graph.specs.Sampled.{seen_row}
use Rattle.pp_graph.specs.Trim.{all_report_keys}
use Rattle.pp_graph.specs.Trimmed.{IsWholeRanking}
use Rattle.pp_graph.proofs.KeyRowLemmas.{rows_are}
use Rattle.pp_export.specs.Laws.{LimitsCut}
use Rattle.pp_export.specs.Table.{exact_heading, row_line, table_rows, exact_table}

pub table_is : (l : Loaded) (v : Verdicts) (config : Config) (column : Option ℕ) (limit : ℕ) (f : Finders) (c : Counted) (t : Ranked) (unit : List ℕ)
    → IsCountedOf l v config column c → IsWholeRanking l v config column limit c t → HoldsFilters l v config.filtering f
    → exact_heading unit ++ table_rows (map (row_at l.profile c.sums) t.order) ≡ exact_table l.profile f config column limit unit
table_is l v config column limit f c t unit counted ranked holds =
    ap (λ rows. exact_heading unit ++ table_rows rows)
    (rows_are l.profile (report_samples l.profile f config column) c.sums t.order (counted.sums_are f holds) ranked.below
    ∙ ap (map (seen_row (report_samples l.profile f config column))) (ranked.keys f holds))

-- the lines under a limit
pub limits_cut : LimitsCut
limits_cut p f config column limit some =
    let row : Written → KeyRow = seen_row (report_samples p f config column) in
    let keys : List Written = all_report_keys p f config column in
    ap (λ b. map row_line (map row (cond b keys (take limit keys)))) (ne_eqb limit 0 (λ none. omega (arith, some, none)))
    ∙ ap (map row_line) (sym (take-map row limit keys)) ∙ sym (take-map row_line limit (map row keys))
