use Rattle.std.proofs.Common.{◌≡◌, ◌++◌, ◌<◌, ℕ, List, get_or, sym, ap, subst, ◌∙◌, arith}
use Rattle.std.specs.declared.alloc.Global.{Global}
use Rattle.std.specs.declared.vec.Vec.{Vec}
use Rattle.pp_share.specs.declared.repeats.Repeat.{Repeat}
use Rattle.pp_share.specs.Renumbered.{new_ids}
use Rattle.pp_share.specs.Repeats.{FindsOfClass, FindsBelow}
use Rattle.pp_share.proofs.RepeatLemmas.{class_more}
use Rattle.pp_share.proofs.repeats.find_repeats_on.Goals as goal

-- one class more
pub loop-class-preserved : goal.loop-class-preserved
loop-class-preserved g c =
    let by = new_ids c.args.by.now in
    let samples = c.args.samples.now in
    let class : ℕ = c.loop-class.class in
    let part : Vec Repeat Global = c.index-as_slice-class.result in
    let below : class < 8 = omega (arith, c.loop-class-test.true, c.len-class-end.ensures, c.in_ok-parts.ensures.many) in
    class_more by samples class c.loop-class.all.items part.items c.extend_from_slice.new.self.items c.loop-class.invariant
    (subst (λ (v : Vec Repeat Global). FindsOfClass by samples class v.items)
    (sym (c.index-as_slice-class.is ∙ ap (λ (l : List (Vec Repeat Global)). get_or l class part) c.as_slice.ensures))
    (c.in_ok-parts.ensures.each class part below))
    (c.in_ok-extend_from_slice.ensures.items ∙ ap (λ l. c.loop-class.all.items ++ l) c.deref.ensures.value)

-- all classes
pub returns : goal.returns
returns g c =
    let all : c.loop-class.class ≡ 8 =
    omega (arith, c.loop-class-test.false, c.loop-class.auto.class-end, c.len-class-end.ensures, c.in_ok-parts.ensures.many) in
    subst (λ n. FindsBelow (new_ids c.args.by.now) c.args.samples.now n c.loop-class.all.items) all c.loop-class.invariant
