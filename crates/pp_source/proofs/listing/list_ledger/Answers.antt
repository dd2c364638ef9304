use Rattle.std.proofs.Common.{◌≡◌, List, length, ap, ◌∙◌, arith, rules}
use Rattle.std.proofs.lemmas.Result.{err_from_is_err_and}
use Rattle.pp_model.specs.FrameTexts.{Written}
use Rattle.pp_units.specs.Head.{facts}
use Rattle.pp_count.specs.Counted.{has_own_match, report_frames}
use Rattle.pp_count.specs.Sums.{Seen}
use Rattle.pp_desk.proofs.Going.{wants}
use Rattle.pp_source.specs.Ledgers.{lines_texts}
use Rattle.pp_source.specs.Routines.{found_lines}
use Rattle.pp_source.proofs.ListLemmas.{made_found, made_stopped, no_lines, report_none, some_lines}
use Rattle.pp_source.proofs.listing.list_ledger.Goals as goal

-- memory was wanting before anything was read
pub returns-in_err-lines : goal.returns-in_err-lines
returns-in_err-lines g c f holds of =
    let p = err_from_is_err_and c.from_residual.result c.from_residual.ensures.1 in
    rw (p.1, p.2) (wants _ _)

-- nothing is found
pub returns-then-is_empty : goal.returns-then-is_empty
returns-then-is_empty g c f holds of =
    let samples : List (Seen Written) = report_frames c.args.listing.now.survey.now.l.now.profile f c.args.listing.now.survey.now.config.now c.args.listing.now.survey.now.column in
    let empty : length c.in_ok-lines.lines.items ≡ 0 = first_of (search rules, grind (arith, c.is_empty.ensures, c.if-is_empty.true)) in
    report_none c.args.listing.now.survey.now.config.now.environment samples (facts c.args.listing.now.head.now) (found_lines f samples) (has_own_match c.args.listing.now.survey.now.l.now.profile f c.args.listing.now.survey.now.config.now c.args.listing.now.survey.now.column) _
    (no_lines f samples c.in_ok-lines.lines.items (c.in_ok-lines.ensures.found f holds.found.own samples of) empty)

-- the report was stopped
pub returns-in_err-text : goal.returns-in_err-text
returns-in_err-text g c f holds of =
    let samples : List (Seen Written) = report_frames c.args.listing.now.survey.now.l.now.profile f c.args.listing.now.survey.now.config.now c.args.listing.now.survey.now.column in
    let some : length c.in_ok-lines.lines.items ≡ 0 → ⊥ = λ none. first_of (search (rules, c.if-is_empty.false), grind (arith, c.is_empty.ensures, c.if-is_empty.false, none)) in
    let are : lines_texts c.in_ok-lines.lines.items ≡ found_lines f samples = c.in_ok-lines.ensures.found f holds.found.own samples of in
    let p = err_from_is_err_and c.from_residual-in_err-text.result c.from_residual-in_err-text.ensures.1 in
    rw (p.1, p.2)
    (made_stopped c.args.listing.now.survey.now.config.now.environment samples (facts c.args.listing.now.head.now) (lines_texts c.deref.result.now) (found_lines f samples) (ap lines_texts c.deref.ensures.value ∙ are)
    (has_own_match c.args.listing.now.survey.now.l.now.profile f c.args.listing.now.survey.now.config.now c.args.listing.now.survey.now.column) (some_lines f samples c.in_ok-lines.lines.items are some) _ _ _
    (c.in_err-text.ensures samples of))

-- the report is there
pub returns : goal.returns
returns g c f holds of =
    let samples : List (Seen Written) = report_frames c.args.listing.now.survey.now.l.now.profile f c.args.listing.now.survey.now.config.now c.args.listing.now.survey.now.column in
    let some : length c.in_ok-lines.lines.items ≡ 0 → ⊥ = λ none. first_of (search (rules, c.if-is_empty.false), grind (arith, c.is_empty.ensures, c.if-is_empty.false, none)) in
    let are : lines_texts c.in_ok-lines.lines.items ≡ found_lines f samples = c.in_ok-lines.ensures.found f holds.found.own samples of in
    made_found c.args.listing.now.survey.now.config.now.environment samples (facts c.args.listing.now.head.now) (lines_texts c.deref.result.now) (found_lines f samples) (ap lines_texts c.deref.ensures.value ∙ are)
    (has_own_match c.args.listing.now.survey.now.l.now.profile f c.args.listing.now.survey.now.config.now c.args.listing.now.survey.now.column) (some_lines f samples c.in_ok-lines.lines.items are some) _ _ c.in_ok-text.text
    (c.in_ok-text.ensures samples of)
