use Rattle.std.proofs.Common.{◌≡◌, map, take}
use Rattle.pp_legacy.specs.Seen.{entry_of}
use Rattle.pp_legacy.specs.Tables.{addresses_of, entry_sample}
use Rattle.pp_legacy.proofs.samples.samples_of.Given as goal

abbrev pub invariant-loop-entry : goal.invariant-loop-entry
invariant-loop-entry l = record {
  addresses : l.addresses.keys ≡ addresses_of (map entry_of (take l.entry-index l.records));
  samples : l.samples ≡ map (entry_sample (addresses_of (map entry_of (take l.entry-index l.records)))) (map entry_of (take l.entry-index l.records));
}
