use Rattle.std.proofs.Common.{rules, ◌<◌, w64, length, sym, ap, ◌∙◌, arith}
use Rattle.std.proofs.lemmas.Int.{to_z-of_z}
use Rattle.std.proofs.lemmas.Option.{get_or_from_slice_get}
use mir.Val.{SFits}
use Rattle.pp_model.specs.Values.{no_sample}
use Rattle.pp_count.specs.Column.{selected}
use Rattle.pp_count.proofs.Chosen.{is_read}
use Rattle.pp_count.proofs.base.value_of.Goals as goal

pub returns : goal.returns
returns c =
    let here : c.args.number < length c.as_slice-samples.result.now =
    omega (arith, c.requires, ap length c.as_slice-samples.ensures, ap (λ p. length p.sample) c.get.ensures.same) in
    let read = is_read c.args.l.now.profile c.get.result.now c.as_slice-samples.result.now c.args.number c.index-samples-number.result c.as_slice-samples.ensures c.get.ensures.same c.get.ensures.valid here c.index-samples-number.is in
    let fits : SFits w64 c.selected.result = search rules in
    to_z-of_z w64 c.selected.result fits ∙ c.selected.ensures
    ∙ ap (selected c.args.column c.args.presentation.now.divide_by) (sym (get_or_from_slice_get c.args.l.now.profile.sample c.args.number c.index-samples-number.result no_sample read.found))
