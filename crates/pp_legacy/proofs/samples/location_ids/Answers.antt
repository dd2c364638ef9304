use Rattle.pp_legacy.specs.Words.{whole_words}
use Rattle.pp_legacy.proofs.SampleLemmas.{word_seen, word_numbered}
use Rattle.pp_legacy.proofs.samples.location_ids.Goals as goal

pub loop-at-preserved : goal.loop-at-preserved
loop-at-preserved c =
    let ws = whole_words c.args.stack.now in
    let id = c.in_ok-id.ensures in
    record {
      addresses = word_seen c.args.addresses.now.keys ws c.loop-at.at c.word_of.result c.word_of.ensures c.loop-at.addresses.keys _ c.loop-at.ids.items c.push.new.self.items c.in_ok-id.id c.loop-at.invariant.addresses id.addresses;
      ids = word_numbered c.args.addresses.now.keys ws c.loop-at.at c.word_of.result c.word_of.ensures c.loop-at.addresses.keys _ c.loop-at.ids.items c.push.new.self.items c.in_ok-id.id c.loop-at.invariant.addresses id.addresses
          c.loop-at.invariant.ids id.id c.in_ok-push.ensures.items;
    }
