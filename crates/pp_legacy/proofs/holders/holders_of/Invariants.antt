use Rattle.std.specs.BTreeMap.{btree_map_len}
use Rattle.pp_legacy.proofs.HolderLemmas.{IsPlaced}
use Rattle.pp_legacy.proofs.holders.holders_of.Given as goal

abbrev pub invariant-loop-mapping : goal.invariant-loop-mapping
invariant-loop-mapping l = IsPlaced l.mappings l.addresses l.free l.holders.items l.mapping-index

abbrev pub invariant-loop-place : goal.invariant-loop-place
invariant-loop-place l = IsPlaced l.mappings l.addresses l.free l.holders.items l.mapping-index

abbrev pub decreases-loop-place : goal.decreases-loop-place
decreases-loop-place l = btree_map_len l.free
