use Rattle.pp_edit.proofs.TextLemmas.{relabelled_is}
use Rattle.pp_edit.proofs.labelling.relabel.Goals as goal

-- the key's verdicts are those on the texts
pub returns : goal.returns
returns c =
    relabelled_is c.args.p c.args.key.now c.in_ok-key.key c.args.labels.now c.as_slice.result.now c.relabel_each.new.samples c.as_slice.ensures
    c.in_ok-key.ensures c.in_ok-relabel_each.ensures
