use Rattle.pp_pseudo.proofs.FrameNameLemmas.{label_more}
use Rattle.pp_pseudo.proofs.frame_name.put_frame_name.Goals as goal

-- one label more
pub loop-label-preserved : goal.loop-label-preserved
loop-label-preserved c =
    label_more c.args.p.now c.args.key.now c.args.labels.now c.loop-label.label-index _ c.loop-label.found c.in_ok-found.found c.loop-label.name
    c.put_label.new.name c.loop-label-test.true c.loop-label.invariant c.in_ok-found.ensures.found c.in_ok-found.ensures.name
