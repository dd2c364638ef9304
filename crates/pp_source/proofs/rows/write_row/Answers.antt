use Rattle.std.proofs.Common.{◌++◌, ap, ◌∙◌, subst, w64}
use Rattle.std.proofs.lemmas.Int.{to_z_pos}
use Rattle.pp_units.specs.Words.{shown}
use Rattle.pp_model.specs.Words.{NoRuleFails}
use Rattle.pp_source.specs.Found.{key_at}
use Rattle.pp_source.specs.Ledgers.{tally_of_key}
use Rattle.pp_source.specs.SourceText.{row_text}
use Rattle.pp_source.specs.Tally.{amounts_of_tally}
use Rattle.pp_source.proofs.Amounting.{line_comes_to}
use Rattle.pp_source.proofs.RowLemmas.{if_one}
use Rattle.pp_source.proofs.Zero.{zero_text}
use Rattle.pp_source.proofs.rows.write_row.Goals as goal

pub returns : goal.returns
returns c samples of =
    if_one c.put_row.result
    (λ is. is
    ∙ ap (λ a. c.args.out.now ++ row_text (shown c.args.listing.now.head.now.unit) a c.args.number c.args.bytes.now)
    (c.amounts_at-sums.ensures
    ∙ ap (λ k. amounts_of_tally (tally_of_key c.args.listing.now.ledger.now.lines k)) c.key_at-key.ensures
    ∙ ap (λ n. amounts_of_tally (tally_of_key c.args.listing.now.ledger.now.lines (key_at c.args.line.now.key n))) (to_z_pos w64 c.args.number c.requires.small)
    ∙ line_comes_to c.args.listing.now.survey.now.l.now.profile c.args.listing.now.survey.now.v.now.own (zero_text c.args.listing.now.survey.now.l.now.profile (subst NoRuleFails c.get-valid.ensures.same c.get-valid.ensures.valid)) c.args.line.now c.requires.line samples c.args.listing.now.ledger.now of c.args.number))
    c.put_row.ensures
