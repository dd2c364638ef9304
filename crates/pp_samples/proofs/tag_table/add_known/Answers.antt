use Rattle.std.proofs.Common.{◌<◌, length, refl, sym, subst, ◌∙◌, arith, rules, w64, FitsSigned}
use Rattle.std.proofs.lemmas.Int.{to_z-of_z}
use Rattle.pp_samples.specs.declared.tag_table.TagSum.{TagSum}
use Rattle.pp_samples.specs.Tables.{Fits, had}
use Rattle.pp_samples.proofs.Slots.{seen_old}
use Rattle.pp_samples.proofs.TablesLemmas.{table_more}
use Rattle.pp_samples.proofs.SmallLemmas.{fits_of}
use Rattle.pp_samples.proofs.PlacesLemmas.{padded_sum}
use Rattle.pp_samples.proofs.tag_table.add_known.Goals as goal

-- the event is added to the sum of its tag
pub returns-clause-table : goal.returns-clause-table
returns-clause-table c events e value turn at is small =
    let own : FitsSigned w64 c.args.value = search rules in
    let names = c.args.table.now.names in
    let sums = c.args.table.now.sums.items in
    let within : c.args.n < length sums = omega (arith, c.requires.known, c.requires.even) in
    let fits = subst (λ (s : TagSum). Fits s e) (sym (padded_sum events e.tag names sums sums c.args.n is at (had within refl))) (fits_of events e small) in
    table_more events e names names sums sums c.credit.new.sums.items c.args.n is
    (sym (seen_old names e.tag (omega (arith, c.requires.known, at)))) at (had within refl)
    (c.credit.ensures.credits e (value ∙ sym (to_z-of_z w64 c.args.value own)) turn fits)
