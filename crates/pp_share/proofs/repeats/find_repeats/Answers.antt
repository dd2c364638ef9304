use Rattle.std.proofs.Common.{◌++◌, ap, ◌∙◌}
use Rattle.pp_share.specs.Renumbered.{new_ids}
use Rattle.pp_share.proofs.RepeatLemmas.{class_more}
use Rattle.pp_share.proofs.repeats.find_repeats.Goals as goal

-- one class more
pub loop-class-preserved : goal.loop-class-preserved
loop-class-preserved c =
    class_more (new_ids c.args.by.now) c.args.samples.now c.loop-class.class c.loop-class.all.items c.in_ok-part.part.items c.extend_from_slice.new.self.items
    c.loop-class.invariant c.in_ok-part.ensures
    (c.in_ok-extend_from_slice.ensures.items ∙ ap (λ l. c.loop-class.all.items ++ l) c.deref.ensures.value)
