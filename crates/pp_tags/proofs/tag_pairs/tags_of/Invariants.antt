use Rattle.std.proofs.Common.{◌≡◌, [], take}
use Rattle.std.specs.List.{fold, flat_map}
use Rattle.std.specs.BTreeSet.{insert_key}
use Rattle.pp_tags.specs.Pairs.{pair_cmp, pairs_in}
use Rattle.pp_tags.proofs.tag_pairs.tags_of.Given as goal

-- the pairs of the samples so far are there
abbrev pub invariant-loop-s : goal.invariant-loop-s
invariant-loop-s l = l.seen.keys ≡ fold (insert_key pair_cmp) [] (flat_map (λ s. pairs_in s.label) (take l.s-index l.s-items))
