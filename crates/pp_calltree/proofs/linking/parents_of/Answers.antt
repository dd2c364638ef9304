use Rattle.std.proofs.Common.{pos, ap, sym, ◌++◌, ◌-◌, ◌+◌, Some, take, replicate, get_or, subst, ◌∙◌, arith}
use Rattle.std.proofs.lemmas.List.{get_or-map, length-map}
use Rattle.pp_calltree.specs.declared.tree.NumberedNode.{NumberedNode}
use Rattle.pp_calltree.specs.Links.{node_by, nodes_by}
use Rattle.pp_calltree.proofs.LinkLemmas.{ParentsTo, parents_none, parents_more, parents_all}
use Rattle.pp_calltree.proofs.linking.parents_of.Goals as goal

none : NumberedNode
none = record { key = 0; depth = 0; flat = pos 0; cum = pos 0 }

pub loop-place-init : goal.loop-place-init
loop-place-init c = λ names.
    parents_none (nodes_by names c.args.nodes.now) c.in_ok-parents.parents.items c.new-above.result.items c.in_ok-parents.ensures.items c.new-above.ensures.items

pub loop-place-preserved : goal.loop-place-preserved
unfolding none
loop-place-preserved c = λ names.
    let x : NumberedNode = get_or c.args.nodes.now c.loop-place.place none in
    subst (λ n. ParentsTo (nodes_by names c.args.nodes.now) (c.loop-place.place + 1) c.push.new.self.items c.resize.new.self.items (Some n)) (sym c.in_ok-number.ensures)
    (parents_more (nodes_by names c.args.nodes.now) c.loop-place.place (node_by names x) (node_by names none) c.loop-place.parents.items c.push.new.self.items c.loop-place.above.items c.resize.new.self.items
    c.loop-place.last c.last_of.result (omega (arith, c.loop-place-test.true, length-map c.args.nodes.now (node_by names)))
    (sym (get_or-map (node_by names) c.args.nodes.now c.loop-place.place none (node_by names none) c.loop-place-test.true))
    (c.in_ok-resize.ensures.items ∙ ap (λ n. take x.depth c.loop-place.above.items ++ replicate (x.depth - n) c.loop-place.last) c.loop-place.above.ok.0)
    (rw c.deref.ensures.value at c.last_of.ensures.none) (rw c.deref.ensures.value at c.last_of.ensures.some) c.in_ok-push.ensures.items (c.loop-place.invariant names))

pub returns : goal.returns
returns c = λ names.
    parents_all (nodes_by names c.args.nodes.now) c.loop-place.place c.loop-place.parents.items c.loop-place.above.items c.loop-place.last
    (omega (arith, c.loop-place-test.false, c.loop-place.auto.place-end, length-map c.args.nodes.now (node_by names))) (c.loop-place.invariant names)
