use Rattle.std.proofs.Common.{◌<◌, length, set, ap, sym, subst, ◌∙◌, rules, w64, FitsSigned}
use Rattle.std.proofs.lemmas.Int.{to_z-of_z}
use Rattle.std.proofs.lemmas.List.{get_or_default}
use Rattle.pp_samples.specs.declared.tag_table.TagSum.{TagSum}
use Rattle.pp_samples.specs.Tables.{no_tag_sum, credited_event, Fits}
use Rattle.pp_samples.proofs.tag_table.credit.Goals as goal

pub returns-clause-credits : goal.returns-clause-credits
returns-clause-credits c e value turn fits =
    let within : c.args.place < length c.args.sums.now.items = c.requires in
    let own : FitsSigned w64 c.args.value = search rules in
    let at = c.index.ensures ∙ get_or_default c.args.sums.now.items c.args.place c.index.result.now no_tag_sum within in
    record {
      within = within;
      is =
          ap (λ (s : TagSum). set c.args.sums.now.items c.args.place s)
          (c.credited.ensures e (value ∙ sym (to_z-of_z w64 c.args.value own)) turn (subst (λ (s : TagSum). Fits s e) (sym at) fits)
          ∙ ap (λ (s : TagSum). credited_event s e) at);
    }
