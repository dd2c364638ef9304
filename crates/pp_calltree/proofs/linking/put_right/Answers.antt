use Rattle.std.proofs.Common.{ap, ◌++◌, ◌∷◌, [], ◌-◌, take, replicate, Some, None, ◌∙◌}
use Rattle.pp_calltree.proofs.LinkLemmas.{put_is}
use Rattle.pp_calltree.proofs.linking.put_right.Goals as goal

pub returns : goal.returns
returns c = λ other.
    put_is c.args.right.now.items c.push.new.self.items c.args.depth c.args.place other
    (c.in_ok-push.ensures.items ∙ ap (λ r. r ++ Some c.args.place ∷ []) c.in_ok-resize.ensures.items
    ∙ ap (λ n. (take c.args.depth c.args.right.now.items ++ replicate (c.args.depth - n) None) ++ Some c.args.place ∷ []) c.args.right.now.ok.0)
