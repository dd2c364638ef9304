use Rattle.pp_calltree.proofs.Kept.{kept_both}
use Rattle.pp_calltree.proofs.paths.Paths.join.Goals as goal

pub returns : goal.returns
returns c = λ a b first second.
    kept_both c.args.self.now c.args.more.now (record { keys = c.extend_from_slice.new.self; parts = c.extend_from_slice-2.new.self }) a b
    (rw c.deref.ensures.value at c.in_ok-extend_from_slice.ensures.items) (rw c.deref-2.ensures.value at c.in_ok-extend_from_slice-2.ensures.items) first second
