use Rattle.std.proofs.Common.{◌++◌, ◌*◌, ◌+◌, ◌∷◌, [], Some, length, sym, ap, ◌∙◌, cond, append-nil}
use Rattle.std.specs.List.{filter}
use Rattle.pp_count.specs.Edges.{has_mark, pair_between}
use Rattle.pp_count.proofs.Paired.{pair_listed}
use Rattle.pp_count.proofs.pairs.push_pair.Goals as goal

-- the pair is counted
pub returns-in_ok-push : goal.returns-in_ok-push
returns-in_ok-push c =
    let m = length c.args.marked.now in
    c.in_ok-push.ensures.items
    ∙ ap (λ xs. c.args.pairs.now.items ++ xs)
    (sym (ap (λ o. filter (has_mark c.args.marked.now) (pair_between m (Some c.args.caller) o)) c.in-Some.is
    ∙ pair_listed c.args.marked.now c.args.caller c.in-Some.callee (c.requires.callee c.in-Some.callee c.in-Some.is)
    ∙ ap (λ b. cond b ((c.args.caller * m + c.in-Some.callee) ∷ []) []) (sym c.is_counted.ensures ∙ c.if-is_counted.true)))

-- it isn't
pub returns-else-is_counted : goal.returns-else-is_counted
returns-else-is_counted c =
    let m = length c.args.marked.now in
    sym (append-nil c.args.pairs.now.items)
    ∙ ap (λ xs. c.args.pairs.now.items ++ xs)
    (sym (ap (λ o. filter (has_mark c.args.marked.now) (pair_between m (Some c.args.caller) o)) c.in-Some.is
    ∙ pair_listed c.args.marked.now c.args.caller c.in-Some.callee (c.requires.callee c.in-Some.callee c.in-Some.is)
    ∙ ap (λ b. cond b ((c.args.caller * m + c.in-Some.callee) ∷ []) []) (sym c.is_counted.ensures ∙ c.if-is_counted.false)))
