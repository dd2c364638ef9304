use Rattle.std.proofs.Common.{◌≢◌, length-set, sym, refl, ap, arith, ◌∙◌}
use Rattle.pp_steal.proofs.Tending.{place, after_steal, deques_set, misses_other, misses_same, misses_at, home_set}
use Rattle.pp_steal.specs.Lanes.{Standing}
use Rattle.pp_steal.proofs.lane.LaneReach.steal.Goals as goal

pub push_reserved-requires : goal.push_reserved-requires
push_reserved-requires c = let lt = place _ _ _ (ap (λ (s : Standing). s.make.deques) c.self.view_is) c.requires.below in
    let t = (after_steal _ _ _ _ _ _ _ _ c.steal.new.self _ c.self.invariant.0 lt (λ e. c.requires.other (e ∙ ap (λ (s : Standing). s.own) c.self.view_is)) c.index_mut-chair.ensures.value (c.steal.ensures.thief, c.steal.ensures.pass) c.in-Some.ensures.some).0.room in omega arith

pub invariant_of-self : goal.invariant_of-self
invariant_of-self c = let lt = place _ _ _ (ap (λ (s : Standing). s.make.deques) c.self.view_is) c.requires.below in let other : c.args.from ≢ c.self.inside.own = λ e. c.requires.other (e ∙ ap (λ (s : Standing). s.own) c.self.view_is) in
    let t = (after_steal _ _ _ _ _ _ _ _ c.steal.new.self _ c.self.invariant.0 lt other c.index_mut-chair.ensures.value (c.steal.ensures.thief, c.steal.ensures.pass) c.in-Some.ensures.some).1 in
    rw (c.push_reserved.ensures.items, c.push_reserved.ensures.capacity) (t, c.self.invariant.1, home_set _ _ _ _ other _ c.self.invariant.2, rw (length-set c.self.inside.chairs.items c.args.from c.steal.new.self) c.self.invariant.3)

pub returns-in-Some-clause-same_make : goal.returns-in-Some-clause-same_make
returns-in-Some-clause-same_make c = let e = deques_set c.self.inside.chairs.items c.args.from _ c.steal.new.self c.index_mut-chair.ensures.value c.steal.ensures.thief in rw (← c.self.view_is, e) refl

pub returns-in-Some-clause-others : goal.returns-in-Some-clause-others
returns-in-Some-clause-others c = λ lane n. rw (← c.self.view_is) (misses_other _ _ _ lane n)

pub returns-in-Some-clause-answer : goal.returns-in-Some-clause-answer
returns-in-Some-clause-answer c = let lt = place _ _ _ (ap (λ (s : Standing). s.make.deques) c.self.view_is) c.requires.below in let other : c.args.from ≢ c.self.inside.own = λ e. c.requires.other (e ∙ ap (λ (s : Standing). s.own) c.self.view_is) in
    let t = (after_steal _ _ _ _ _ _ _ _ c.steal.new.self _ c.self.invariant.0 lt other c.index_mut-chair.ensures.value (c.steal.ensures.thief, c.steal.ensures.pass) c.in-Some.ensures.some).0 in
    rw (c.push_reserved.ensures.items, ← c.self.view_is) (record { new = t.absent; appended = refl }, misses_same _ _ _ lt ∙ c.in-Some.ensures.hit ∙ sym (misses_at _ _ _ lt c.index_mut-chair.ensures.value))

pub returns-in-None-clause-same_make : goal.returns-in-None-clause-same_make
returns-in-None-clause-same_make c = let e = deques_set c.self.inside.chairs.items c.args.from _ c.steal.new.self c.index_mut-chair.ensures.value c.steal.ensures.thief in rw (← c.self.view_is, e) refl

pub returns-in-None-clause-others : goal.returns-in-None-clause-others
returns-in-None-clause-others c = λ lane n. rw (← c.self.view_is) (misses_other _ _ _ lane n)

pub returns-in-None-clause-answer : goal.returns-in-None-clause-answer
returns-in-None-clause-answer c = let lt = place _ _ _ (ap (λ (s : Standing). s.make.deques) c.self.view_is) c.requires.below in
    rw (← c.self.view_is, misses_same _ _ _ lt, misses_at _ _ _ lt c.index_mut-chair.ensures.value) (refl, c.in-None.ensures.later, c.in-None.ensures.miss)
