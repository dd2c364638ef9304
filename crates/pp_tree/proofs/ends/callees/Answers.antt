use Rattle.std.specs.Ordering.{is_lt}
use Rattle.std.proofs.Common.{◌≡◌, rules}
use Rattle.std.proofs.lemmas.Fn.{always_returns_same}
use Rattle.std.proofs.lemmas.List.Sorted.{ranks_by}
use Rattle.pp_tree.specs.Ends.{near_cmp}
use Rattle.pp_tree.proofs.Arranged.{near_cmp_total, callees_are}
use Rattle.pp_tree.proofs.ends.callees.Goals as goal

pub returns : goal.returns
returns c = λ pairs shows.
    callees_are c.args.p.now c.args.sums.now.names c.args.graph.now c.requires.walk.linked c.requires.walk.nodes.count pairs shows c.args.node c.requires.below
    c.in_ok-nears.nears.items c.sort_by.new.self.items c.in_ok-nears.ensures c.in_ok-sort_by.ensures.permutation
    (c.in_ok-sort_by.ensures.sorted (λ a b. is_lt (near_cmp a b)) (ranks_by near_cmp_total (λ r. r))
    (always_returns_same _ (λ a r. is_lt r ≡ is_lt (near_cmp a.0.now a.1.0.now)) _ (λ a r f' k. search rules)))
