use Rattle.std.proofs.Common.{◌≡◌, take}
use Rattle.std.specs.List.{fold}
use Rattle.std.specs.BTreeSet.{insert_key}
use Rattle.pp_tags.specs.Pairs.{pair_cmp, pairs_in}
use Rattle.pp_tags.proofs.tag_pairs.add_pairs.Given as goal

-- the pairs of the labels so far are there
abbrev pub invariant-loop-label : goal.invariant-loop-label
invariant-loop-label l = l.seen.keys ≡ fold (insert_key pair_cmp) l.fn.seen.keys (pairs_in (take l.label-index l.labels))
