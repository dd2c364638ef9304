use Rattle.std.proofs.Common.{sym, pos}
use Rattle.std.proofs.lemmas.Option.{get_or_from_slice_get}
use Rattle.pp_count.specs.declared.part.KeySum.{KeySum}
use Rattle.pp_count.specs.Table.{no_key}
use Rattle.pp_count.proofs.Finals.{had_more, keys_more}
use Rattle.pp_count.proofs.sums.sums_by_keys.Goals as goal

none : KeySum
none = record { key = 0; flat = pos 0; cum = pos 0 }

-- one more entry
pub loop-sum-preserved : goal.loop-sum-preserved
unfolding none
loop-sum-preserved c = (
  keys_more c.args.names.now c.requires.distinct c.args.sums.now c.loop-sum.sum-index none c.loop-sum.all.sums.names c.add_sum.new.all.sums.names c.key-key.result c.loop-sum-test.true
      c.requires.below c.requires.once c.loop-sum.invariant.0 (sym (get_or_from_slice_get c.args.names.now _ c.key-key.result no_key c.key-key.ensures)) c.in_ok-add_sum.ensures.names,
  had_more (λ (e : KeySum). e.flat) c.args.sums.now c.loop-sum.sum-index none c.loop-sum.all.sums.flat c.add_sum.new.all.sums.flat c.loop-sum-test.true c.loop-sum.invariant.1 c.in_ok-add_sum.ensures.flat,
  had_more (λ (e : KeySum). e.cum) c.args.sums.now c.loop-sum.sum-index none c.loop-sum.all.sums.cum c.add_sum.new.all.sums.cum c.loop-sum-test.true c.loop-sum.invariant.2 c.in_ok-add_sum.ensures.cum,
  had_more (λ (e : KeySum). e.key) c.args.sums.now c.loop-sum.sum-index none c.loop-sum.all.numbers c.add_sum.new.all.numbers c.loop-sum-test.true c.loop-sum.invariant.3 c.in_ok-add_sum.ensures.numbers,
)
