use Rattle.pp_share.specs.Renumbered.{new_ids}
use Rattle.pp_share.specs.StackOrder.{id_cmp}
use Rattle.pp_share.proofs.StackOrderLemmas.{IsLevel}
use Rattle.pp_share.proofs.stack_order.ids_order.Given as goal

-- no ids so far differ
abbrev pub invariant-loop-index : goal.invariant-loop-index
invariant-loop-index l = IsLevel (id_cmp (new_ids l.by)) l.a l.b l.index
