use Rattle.std.proofs.Common.{◌++◌, List, ap, ◌∙◌}
use Rattle.std.proofs.lemmas.List.Sorted.{All-permutation}
use Rattle.pp_calltree.specs.declared.branch.Branch.{Branch}
use Rattle.pp_calltree.specs.Listed.{GoesOnFrom}
use Rattle.pp_calltree.specs.Paths.{below}
use Rattle.pp_calltree.proofs.Runs.{ordered_listed}
use Rattle.pp_calltree.proofs.siblings.push_branches.Goals as goal

pub returns : goal.returns
returns c =
    let found : List Branch = c.find_branches.new.found.items in
    let sorted : List Branch = c.sort_branches.new.list.items in
    record {
      branches = sorted;
      added = c.in_ok-append.ensures.items ∙ ap (λ r. c.args.waiting.now.items ++ r) c.reverse.ensures.items;
      are = ordered_listed c.args.depth (below c.args.depth c.args.paths.now) found sorted c.in_ok-find_branches.ensures.branches c.in_ok-sort_branches.ensures.same;
      sorted = c.in_ok-sort_branches.ensures.sorted;
      go_on = λ above deep begin.
          All-permutation (GoesOnFrom above) found sorted c.in_ok-sort_branches.ensures.same (c.in_ok-find_branches.ensures.go_on above deep begin);
    }
