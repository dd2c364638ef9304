use Rattle.pp_model.proofs.frame.frames_into.Goals as goal

pub push_frames-requires-clause-refers : goal.push_frames-requires-clause-refers
push_frames-requires-clause-refers c = rw c.get.ensures.same c.requires
