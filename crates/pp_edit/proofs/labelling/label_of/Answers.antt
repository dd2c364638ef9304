use Rattle.std.proofs.Common.{pos, ◌∙◌, sym, ap, w64, rules}
use Rattle.std.proofs.lemmas.Int.{to_z-of_z}
use Rattle.pp_edit.proofs.TextLemmas.{label_added}
use Rattle.pp_edit.proofs.labelling.label_of.Goals as goal

-- a text keeps its index while others are added
pub returns-clause-label : goal.returns-clause-label
returns-clause-label c =
    let same = label_added c.args.texts.now c.index_of.new.texts c.index_of-2.new.texts c.index_of-3.new.texts
    (record { key = c.args.key.now; text = c.args.text.now; num = c.args.num; unit = c.args.unit.now })
    c.in_ok-index_of.ensures.texts c.in_ok-index_of-2.ensures.texts c.in_ok-index_of-3.ensures.texts in
    λ i. record {
      key = (to_z-of_z w64 c.in_ok-index_of.field-0 (record { sfits = search rules }) ∙ c.in_ok-index_of.ensures.index ∙ ap pos (sym same.0)) i;
      text = (to_z-of_z w64 c.in_ok-index_of-2.field-0 (record { sfits = search rules }) ∙ c.in_ok-index_of-2.ensures.index ∙ ap pos (sym same.1)) i;
      num = to_z-of_z w64 c.args.num (record { sfits = c.ranges.num.sfits }) i;
      num_unit = (to_z-of_z w64 c.in_ok-index_of-3.field-0 (record { sfits = search rules }) ∙ c.in_ok-index_of-3.ensures.index ∙ ap pos (sym same.2)) i;
    }
