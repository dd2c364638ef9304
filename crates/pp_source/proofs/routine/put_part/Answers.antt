use Rattle.std.proofs.Common.{◌++◌, codes, ap, ◌∙◌, w64}
use Rattle.std.proofs.lemmas.Int.{to_z-of_z}
use Rattle.pp_source.proofs.RowLemmas.{if_one}
use Rattle.pp_source.proofs.routine.put_part.Goals as goal

pub returns : goal.returns
returns c =
    if_one c.put_framed.result (λ is. is ∙ ap (λ t. c.args.out.now ++ (codes " (flat, cum) " ++ t ++ codes " of Total\n")) (c.bytes.ensures ∙ (rw (to_z-of_z w64 c.args.sum c.ranges.sum) at c.write_percent.ensures))) c.put_framed.ensures
