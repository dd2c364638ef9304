use Rattle.std.proofs.Common.{◌∙◌}
use Rattle.pp_source.proofs.ReadLemmas.{split_next}
use Rattle.pp_source.proofs.split.split_sources.Goals as goal

-- one more source
pub loop-source-preserved : goal.loop-source-preserved
loop-source-preserved c =
    split_next c.args.sources.now c.loop-source.source-index c.source-item.result c.loop-source.split.items c.push.new.self.items c.in_ok-next.next c.loop-source-test.true c.loop-source.invariant
    c.in_ok-push.ensures.items (c.in_ok-next.ensures ∙ c.source-item.is)
