use Rattle.pp_base.proofs.TextLemmas.{then_ok}
use Rattle.pp_pseudo.specs.Framed.{placing}
use Rattle.pp_pseudo.proofs.AddingFrames.{adds_sample}
use Rattle.pp_pseudo.proofs.frames.put_frames.Goals as goal

-- the frames of the leaves, of the stack and of the roots
pub returns : goal.returns
returns c =
    then_ok c.put_keys-2.result
    (λ last. adds_sample c.args.l.now c.args.keys.now.roots.now c.args.keys.now.leaves.now c.args.s.now c.get-p.result.now c.as_slice-labels.result.now c.get-p.ensures.same c.as_slice-labels.ensures
    (placing c.args.frames.now c.args.ids.now) (placing c.put_keys.new.frames c.put_keys.new.ids) (placing c.put_stack.new.frames c.put_stack.new.ids)
    (placing c.put_keys-2.new.frames c.put_keys-2.new.ids) c.in_ok-put_keys.ensures c.in_ok-put_stack.ensures last)
    c.put_keys-2.ensures
