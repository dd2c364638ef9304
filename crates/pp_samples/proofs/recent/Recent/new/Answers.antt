use Rattle.pp_samples.proofs.recent.Recent.new.Goals as goal

pub returns : goal.returns
returns c = record { count = c.loop.counter; is = c.loop.invariant }
