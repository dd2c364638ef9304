use Rattle.std.proofs.Common.{◌-◌, ◌<◌}
use Rattle.pp_share.specs.Repeats.{BeginsKind, FindsRepeats}
use Rattle.pp_share.specs.StackOrder.{kind_cmp}
use Rattle.pp_share.proofs.repeats.repeats_in.Given as goal

-- the repeats so far, and where the last kind begins
abbrev pub invariant-loop-index : goal.invariant-loop-index
invariant-loop-index l = record {
  begun : 0 < l.index → BeginsKind (kind_cmp l.kind) l.placed (l.index - 1) l.first;
  found : FindsRepeats (kind_cmp l.kind) l.placed l.index l.repeats.items;
}
