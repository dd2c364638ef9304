use Rattle.std.proofs.Common.{◌≡◌, ◌∷◌, ◌-◌, ℕ, length, get_or, take, drop, subst, arith}
use Rattle.pp_restack.specs.Stacks.{by_place}
use Rattle.pp_restack.proofs.PlacesLemmas.{no_frame}
use Rattle.pp_restack.proofs.Grouping.{first_group}
use Rattle.pp_restack.proofs.stacks.group_len.Goals as goal

-- the next frame is of another place
pub returns-then-stack-count-clause-group : goal.returns-then-stack-count-clause-group
returns-then-stack-count-clause-group c =
    let stack = c.args.stack.now in
    let count = c.loop-count.count in
    first_group stack count c.loop-count.invariant
    (λ k is below same.
    let e : k ≡ count - 1 = omega (arith, is) in
    c.if-stack-count.true (subst (λ (n : ℕ). (get_or stack n no_frame).place ≡ (get_or stack count no_frame).place) e same))

-- all frames are of one place
pub returns : goal.returns
returns c =
    let stack = c.args.stack.now in
    let count = c.loop-count.count in
    let all : count ≡ length stack = omega (arith, c.loop-count.invariant.within, c.loop-count-test.false) in
    record {
      some = c.requires;
      within = omega arith;
      group =
          subst (λ (n : ℕ). by_place stack ≡ take n stack ∷ by_place (drop n stack)) all
          (first_group stack count c.loop-count.invariant (λ k is below. absurd (omega (arith, below, all))));
    }
