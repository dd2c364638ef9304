use Rattle.std.proofs.Common.{map, take, ap, ◌∙◌}
use Rattle.std.proofs.lemmas.List.{take_more, map_push}
use Rattle.pp_legacy.specs.Seen.{entry_of}
use Rattle.pp_legacy.proofs.SampleLemmas.{entry_seen, entry_sampled}
use Rattle.pp_legacy.proofs.samples.samples_of.Goals as goal

pub loop-entry-preserved : goal.loop-entry-preserved
loop-entry-preserved c =
    let rs = c.args.records.now in
    let i = c.loop-entry.entry-index in
    let next = ap (map entry_of) (take_more rs i _ c.loop-entry-test.true) ∙ map_push entry_of (take i rs) _ in
    let sample = c.in_ok-sample_of.ensures in
    record {
      addresses = entry_seen _ _ _ next _ _ c.loop-entry.invariant.addresses sample.addresses;
      samples = entry_sampled _ _ _ next _ _ c.loop-entry.invariant.addresses sample.addresses _ _ _ c.loop-entry.invariant.samples sample.sample c.in_ok-push.ensures.ok;
    }
