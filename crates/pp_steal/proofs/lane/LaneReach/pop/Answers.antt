use Rattle.std.proofs.Common.{[], sym, refl, subst, arith, ◌∙◌}
use Rattle.pp_steal.specs.Pool.{TakesPart}
use Rattle.pp_steal.proofs.Keeps.{takes, pops, finds}
use Rattle.pp_steal.proofs.Tending.{after_pop}
use Rattle.pp_steal.proofs.lane.LaneReach.pop.Goals as goal

pub pop_as-requires-clause-fifo : goal.pop_as-requires-clause-fifo
pop_as-requires-clause-fifo c = λ _. takes _ _ (subst TakesPart (sym c.self.invariant.0.marked) tt)

pub pop_as-requires-clause-lifo : goal.pop_as-requires-clause-lifo
pop_as-requires-clause-lifo c = λ _. pops _ _ (subst TakesPart (sym c.self.invariant.0.marked) tt)

pub pop_as-requires-clause-empty : goal.pop_as-requires-clause-empty
pop_as-requires-clause-empty c = λ views. finds _ _ [] views (subst TakesPart (sym c.self.invariant.0.marked) tt)

pub push_reserved-requires : goal.push_reserved-requires
push_reserved-requires c = let t = (after_pop _ _ _ _ _ _ _ _ c.self.invariant.0 c.in-Some.ensures.rule).0.room in omega arith

pub invariant_of-self : goal.invariant_of-self
invariant_of-self c = let t = (after_pop _ _ _ _ _ _ _ _ c.self.invariant.0 c.in-Some.ensures.rule).1 in rw (c.push_reserved.ensures.items, c.push_reserved.ensures.capacity) (t, c.self.invariant.1, λ k. c.in-Some.ensures.same.0.0 ∙ c.self.invariant.2 k, c.self.invariant.3)

pub returns-in-Some-clause-answer : goal.returns-in-Some-clause-answer
returns-in-Some-clause-answer c = let t = (after_pop _ _ _ _ _ _ _ _ c.self.invariant.0 c.in-Some.ensures.rule).0 in rw (c.push_reserved.ensures.items, ← c.self.view_is) (record { new = t.absent; appended = refl }, refl)
