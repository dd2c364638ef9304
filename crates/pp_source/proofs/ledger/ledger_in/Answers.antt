use Rattle.std.proofs.Common.{ap, sym, subst, length, ◌∙◌}
use Rattle.std.specs.Prelude.{IfOk}
use Rattle.pp_model.specs.declared.grouping.Grouping.{Grouping}
use Rattle.pp_model.specs.declared.profile.Profile.{Profile}
use Rattle.pp_count.specs.Counted.{report_frames}
use Rattle.pp_count.specs.Rising.{AreRisingBetween}
use Rattle.pp_count.proofs.Based.{chosen_few, chosen_fits}
use Rattle.pp_source.specs.Ledgers.{IsLedgerOf, by_lines}
use Rattle.pp_source.proofs.ledger.ledger_in.Goals as goal

-- no filter looks at what a key is
pub ledger_by-requires-clause-sound : goal.ledger_by-requires-clause-sound
ledger_by-requires-clause-sound c = record {
  filters = c.filters.ensures;
  verdicts = c.args.survey.now.can.verdicts;
  table = c.requires.table;
  few_kept = tt;
  chosen = subst (AreRisingBetween 0 (length c.args.survey.now.l.now.profile.sample)) (sym c.as_slice-kept.ensures) c.args.survey.now.counts.rising;
}

pub ledger_by-requires-clause-countable : goal.ledger_by-requires-clause-countable
ledger_by-requires-clause-countable c =
    let rising : AreRisingBetween 0 (length c.args.survey.now.l.now.profile.sample) c.as_slice-kept.result.now =
    subst (AreRisingBetween 0 (length c.args.survey.now.l.now.profile.sample)) (sym c.as_slice-kept.ensures) c.args.survey.now.counts.rising in
    record {
      fits = chosen_fits c.args.survey.now.l.now.profile c.args.survey.now.column c.args.survey.now.config.now.presentation.divide_by c.as_slice-kept.result.now c.args.survey.now.can.countable c.args.survey.now.can.column rising;
      few = chosen_few c.args.survey.now.l.now.profile c.as_slice-kept.result.now c.args.survey.now.can.countable rising;
    }

pub ledger_by-requires-clause-lines : goal.ledger_by-requires-clause-lines
ledger_by-requires-clause-lines c = c.requires.lines ∙ ap by_lines (sym c.requires.lines)

-- frames are seen as the report sees them, whichever keys they are counted by
pub returns-clause-sums : goal.returns-clause-sums
returns-clause-sums c f holds =
    let p : Profile = c.args.survey.now.l.now.profile in
    subst (λ (lines : Grouping). IfOk c.ledger_by.result
    (IsLedgerOf p c.args.survey.now.v.now.own (report_frames p f (record c.args.survey.now.config.now { grouping = lines }) c.args.survey.now.column)))
    c.requires.lines
    (c.ledger_by.ensures.sums f holds (c.as_slice-kept.ensures ∙ c.args.survey.now.counts.kept f holds))
