use Rattle.std.proofs.Common.{Result, Ok, Err, IfOk}
use Rattle.pp_calltree.specs.Tree.{IsTreeOf}
use Rattle.pp_calltree.specs.Links.{nodes_by}
use Rattle.pp_calltree.proofs.Built.{gathered_room, tree_is}
use Rattle.pp_calltree.proofs.building.ReportPaths.nodes.Goals as goal

pub lay_out-nodes-requires-clause-room : goal.lay_out-nodes-requires-clause-room
lay_out-nodes-requires-clause-room c =
    rw c.deref.ensures.value (gathered_room c.args.self.now c.in_ok-sorted.sorted.items c.in_ok-sorted.ensures.same)

pub lay_out-nodes-requires-clause-rises : goal.lay_out-nodes-requires-clause-rises
lay_out-nodes-requires-clause-rises c = rw c.deref.ensures.value c.in_ok-sorted.ensures.rises

-- what follows of three facts of the value, if there is one
from_three : {T E : Type 0} (r : Result T E) (A B C D : T → Type 0) → ((x : T) → A x → B x → C x → D x) → IfOk r A → IfOk r B → IfOk r C → IfOk r D
from_three (Ok x) A B C D from a b c = from x a b c
from_three (Err e) A B C D from a b c = tt

pub returns : goal.returns
returns c = λ l v config column of_scope.
    let names = c.args.self.now.scope.table.now.names in
    from_three c.lay_out-nodes.result _ _ _ (λ nodes. IsTreeOf l v config column (nodes_by names nodes))
    (λ nodes rows keys fits. tree_is c.args.self.now c.in_ok-sorted.sorted.items c.in_ok-sorted.ensures.same (nodes_by names nodes) rows keys fits l v config column of_scope)
    (rw (c.get.ensures.same, c.deref.ensures.value) at c.lay_out-nodes.ensures.rows) (rw c.get.ensures.same at c.lay_out-nodes.ensures.keys) c.lay_out-nodes.ensures.fits
