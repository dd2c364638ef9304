use Rattle.std.proofs.Common.{◌-◌, length, map}
use Rattle.pp_legacy.specs.Words.{whole_words}
use Rattle.pp_legacy.specs.Records.{entries_from}
use Rattle.pp_legacy.specs.Seen.{entry_of}
use Rattle.pp_legacy.specs.Sizes.{HasFew}
use Rattle.pp_legacy.proofs.RecordLemmas.{IsUnderWay}
use Rattle.pp_legacy.proofs.records.records_of.Given as goal

abbrev pub invariant-loop-records : goal.invariant-loop-records
invariant-loop-records l = record {
  way :
      IsUnderWay (whole_words l.bytes) l.nanos (entries_from (whole_words l.bytes) l.nanos (record { word = l.first; counts = 0 }))
      (map entry_of l.records.items) l.at;
  few : HasFew l.at.word (map entry_of l.records.items);
}

abbrev pub decreases-loop-records : goal.decreases-loop-records
decreases-loop-records l = length (whole_words l.bytes) - l.at.word
