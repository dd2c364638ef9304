use Rattle.std.proofs.Common.{◌≡◌, ℕ, ◌+◌, ◌-◌, pos, set, ap, ◌∙◌, arith}
use Rattle.std.proofs.lemmas.List.{length-set}
use Rattle.pp_calltree.specs.declared.tree.NumberedNode.{NumberedNode}
use Rattle.pp_calltree.proofs.LinkLemmas.{nexts_more, nexts_all}
use Rattle.pp_calltree.proofs.linking.nexts_of.Goals as goal

none : NumberedNode
none = record { key = 0; depth = 0; flat = pos 0; cum = pos 0 }

pub loop-place-preserved : goal.loop-place-preserved
unfolding none
loop-place-preserved c =
    let next : ℕ = c.loop-place.place - 1 in
    let before : next + 1 ≡ c.loop-place.place = omega (arith, c.loop-place-test.true) in
    record {
      in_range = omega (arith, before, c.loop-place.invariant.in_range);
      count = length-set c.loop-place.nexts.items next c.entry.result ∙ c.loop-place.invariant.count;
      nexts = λ names.
          nexts_more names c.args.nodes.now c.loop-place.place next none c.loop-place.nexts.items _ c.loop-place.right.items c.put_right.new.right.items before
          (ap (set c.loop-place.nexts.items next) (rw c.deref.ensures.value at c.entry.ensures)) (rw c.in_ok-number.ensures at c.in_ok-put_right.ensures) (c.loop-place.invariant.nexts names);
    }

pub returns : goal.returns
returns c = λ names. nexts_all names c.args.nodes.now c.loop-place.place c.loop-place.nexts.items c.loop-place.right.items c.loop-place-test.false (c.loop-place.invariant.nexts names)
