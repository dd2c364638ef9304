use Rattle.std.proofs.lemmas.Result.{IfOk-at_ok}
use Rattle.pp_calltree.specs.Links.{nodes_by}
use Rattle.pp_calltree.specs.Tree.{IsTreeOf}
use Rattle.pp_calltree.proofs.tree.PathNodes.of.Goals as goal

pub returns : goal.returns
returns c = λ l v config column same.
    let names = c.args.gathered.scope.table.now.names in
    IfOk-at_ok (λ nodes. IsTreeOf l v config column (nodes_by names nodes)) c.in_ok-nodes.was (c.nodes-nodes.ensures l v config column same)
