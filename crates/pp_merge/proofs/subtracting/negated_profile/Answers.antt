use Rattle.std.proofs.Common.{◌∙◌, sym, ap}
use Rattle.pp_merge.specs.Scale.{negated}
use Rattle.pp_merge.proofs.NegatedLemmas.{base_is, diff_base_is}
use Rattle.pp_merge.proofs.subtracting.negated_profile.Goals as goal
use Rattle.pp_merge.proofs.subtracting.negated_profile.Goals.{in-Base, in-DiffBase+in_ok-label-in-DiffBase+in_ok-label_samples-in-DiffBase}

-- by the kind of the base
pub returns : goal.returns
returns c = elim c.match-kind.branch [
  | in-Base w ↦
      w.p-is ∙ base_is c.args.p c.change_each.new.items c.requires.valid c.requires.countable c.change_each.ensures ∙ ap (λ kind. negated kind c.args.p) (sym w.in-Base.is)
  | in-DiffBase+in_ok-label-in-DiffBase+in_ok-label_samples-in-DiffBase w ↦
      w.p-is
      ∙ diff_base_is c.args.p c.change_each.new.items w.label_samples.new.samples w.in_ok-label-in-DiffBase.label w.add_base_texts.new.texts c.requires.valid c.requires.countable
      c.change_each.ensures w.in_ok-label-in-DiffBase.ensures.label w.in_ok-label-in-DiffBase.ensures.texts w.in_ok-label_samples-in-DiffBase.ensures
      ∙ ap (λ kind. negated kind c.args.p) (sym w.in-DiffBase.is)
]
