-- What is written of a ranking is the top report.
use Rattle.std.proofs.Common.{◌≡◌, ℕ, pos, List, ◌++◌, length, map, Option, sym, ap, ◌∙◌}
use Rattle.std.proofs.lemmas.List.{length-map}
use Rattle.pp_model.specs.declared.config.Config.{Config}
use Rattle.pp_model.specs.declared.loaded.Loaded.{Loaded}
use Rattle.pp_model.specs.declared.verdicts.Verdicts.{Verdicts}
use Rattle.pp_model.specs.Finders.{Finders}
use Rattle.pp_model.specs.FrameTexts.{Written}
use Rattle.pp_units.specs.Head.{Facts, facts_text}
use Rattle.pp_units.specs.Rows.{heading}
use Rattle.pp_count.specs.declared.counted.Counted.{Counted}
use Rattle.pp_count.specs.Counted.{IsCountedOf, report_samples}
use Rattle.pp_count.specs.Seeing.{HoldsFilters}
use Rattle.pp_count.specs.Sums.{Seen}
use Rattle.pp_count.specs.Table.{written_key}
use Rattle.pp_graph.specs.declared.ranking.Ranked.{Ranked}
use Rattle.pp_graph.specs.Trim.{report_keys}
use Rattle.pp_graph.specs.Trimmed.{IsRankedOf}
use Rattle.pp_graph.specs.KeyRows.{row_at}
use Rattle.pp_graph.specs.Sampled.{seen_row}
use Rattle.pp_top.specs.Top.{top_rows, top_summary, ranked_text, top_text}
use Rattle.pp_graph.proofs.KeyRowLemmas.{rows_are}

pub ranked_is : (l : Loaded) (v : Verdicts) (config : Config) (column : Option ℕ) (limit : ℕ) (f : Finders) (c : Counted) (t : Ranked) (h : Facts)
    → IsCountedOf l v config column c → IsRankedOf l v config column limit c t → HoldsFilters l v config.filtering f
    → ranked_text l.profile c.sums t h ≡ top_text l.profile f config column limit h
ranked_is l v config column limit f c t h counted ranked holds =
    let samples : List (Seen Written) = report_samples l.profile f config column in
    let keys : List Written = report_keys l.profile f config column limit in
    let rows : map (row_at l.profile c.sums) t.order ≡ map (seen_row samples) keys =
    rows_are l.profile samples c.sums t.order (counted.sums_are f holds) ranked.below ∙ ap (map (seen_row samples)) (ranked.keys f holds) in
    let count : length t.order ≡ length keys =
    sym (length-map t.order (written_key l.profile c.sums.names)) ∙ ap length (ranked.keys f holds) in
    λ i.
    facts_text h ++ top_summary h (ranked.shown_flat f holds i) (ranked.dropped_nodes f holds i) (count i) (ranked.candidates f holds i)
    ++ heading ++ top_rows h.unit h.total (pos 0) (rows i)
