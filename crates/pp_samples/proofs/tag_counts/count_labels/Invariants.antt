use Rattle.std.proofs.Common.{List, ◌++◌, map, take}
use Rattle.pp_samples.specs.Tables.{Event, AreKeys, AreSmall, label_event}
use Rattle.pp_samples.specs.Counting.{AreSound}
use Rattle.pp_samples.proofs.tag_counts.count_labels.Given as goal

-- the labels so far are added
abbrev pub invariant-loop-label : goal.invariant-loop-label
invariant-loop-label l = record {
  sound : AreSound l.p l.counts;
  keys : (events : List Event) → AreKeys events l.fn.counts.keys
      → AreSmall (events ++ map (label_event l.p l.fn.value l.turn) (take l.label-index l.labels))
      → AreKeys (events ++ map (label_event l.p l.fn.value l.turn) (take l.label-index l.labels)) l.counts.keys;
}
