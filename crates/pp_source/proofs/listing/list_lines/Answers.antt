use Rattle.std.proofs.Common.{map, ap, ◌∙◌}
use Rattle.std.proofs.lemmas.Result.{err_from_is_err_and}
use Rattle.pp_units.specs.Head.{facts}
use Rattle.pp_source.specs.Files.{source_at}
use Rattle.pp_source.specs.Ledgers.{lines_texts}
use Rattle.pp_source.specs.SourceText.{lines_text}
use Rattle.pp_source.proofs.FileLemmas.{told}
use Rattle.pp_source.proofs.ReadLemmas.{lines_go, lines_stop, lines_want}
use Rattle.pp_source.proofs.listing.list_lines.Goals as goal

-- a read was stopped
pub returns-in-Err : goal.returns-in-Err
returns-in-Err g c samples of =
    lines_stop c.args.listing.now.survey.now.config.now.environment samples (facts c.args.listing.now.head.now) (lines_texts c.args.lines.now) c.as_slice.result.now c.in_ok-files.files.keys c.as_slice.ensures.keys c.in_ok-files.ensures _ _ _
    c.in-Err.ensures

-- memory was wanting for the text
pub returns-in_err-text-in-Ok : goal.returns-in_err-text-in-Ok
returns-in_err-text-in-Ok g c samples of =
    let p = err_from_is_err_and c.from_residual-in_err-text-in-Ok.result c.from_residual-in_err-text-in-Ok.ensures.1 in
    rw (p.1, p.2)
    (lines_want c.args.listing.now.survey.now.config.now.environment samples (facts c.args.listing.now.head.now) (lines_texts c.args.lines.now) c.as_slice.result.now c.in_ok-files.files.keys c.as_slice.ensures.keys c.in_ok-files.ensures _ _
    c.in-Ok.sources c.in-Ok.ensures)

-- the report is whole
pub returns-in_ok-text-in-Ok : goal.returns-in_ok-text-in-Ok
returns-in_ok-text-in-Ok g c samples of =
    lines_go c.args.listing.now.survey.now.config.now.environment samples (facts c.args.listing.now.head.now) (lines_texts c.args.lines.now) c.as_slice.result.now c.in_ok-files.files.keys c.as_slice.ensures.keys c.in_ok-files.ensures _ _
    c.in-Ok.sources c.in_ok-text-in-Ok.field-0 c.in-Ok.ensures
    (c.in_ok-text-in-Ok.ensures samples of
    ∙ ap (λ ss. lines_text samples (facts c.args.listing.now.head.now) (source_at (map told c.in_ok-files.files.keys) ss) (lines_texts c.args.lines.now)) c.as_slice-in-Ok.ensures)
