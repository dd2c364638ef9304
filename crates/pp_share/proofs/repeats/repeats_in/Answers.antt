use Rattle.std.proofs.Common.{◌≡◌, ◌+◌, ◌-◌, ℕ, subst, arith}
use Rattle.pp_share.specs.Repeats.{BeginsKind}
use Rattle.pp_share.specs.StackOrder.{kind_cmp}
use Rattle.pp_share.proofs.RepeatLemmas.{found_more}
use Rattle.pp_share.proofs.StackOrderLemmas.{kind_total}
use Rattle.pp_share.proofs.repeats.repeats_in.Goals as goal

-- one sample more
pub loop-index-preserved : goal.loop-index-preserved
loop-index-preserved c =
    let kind = c.args.kind.now in
    let index : ℕ = c.loop-index.index in
    let here : index ≡ index + 1 - 1 = omega arith in
    record {
      begun = λ _. subst (λ k. BeginsKind (kind_cmp kind) c.args.placed.now k c.first_of-first.result) here c.first_of-first.ensures;
      found =
          found_more (kind_cmp kind) (kind_total kind) c.args.placed.now index c.first_of-first.result c.index-placed-index.result c.loop-index.repeats.items c.push_later.new.repeats.items
          c.loop-index-test.true c.loop-index.invariant.found c.first_of-first.ensures c.in_ok-push_later.ensures;
    }
