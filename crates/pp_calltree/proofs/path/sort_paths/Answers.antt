use Rattle.std.proofs.Common.{◌≡◌, rules}
use Rattle.std.specs.Cmp.Lexicographic.{nat_list_cmp_total}
use Rattle.std.specs.Ordering.{is_lt}
use Rattle.std.proofs.lemmas.Fn.{always_returns_same}
use Rattle.std.proofs.lemmas.List.Sorted.{ranks_by}
use Rattle.pp_calltree.specs.declared.path.Path.{Path}
use Rattle.pp_calltree.specs.Paths.{path_cmp}
use Rattle.pp_calltree.proofs.path.sort_paths.Goals as goal

pub returns-clause-sorted : goal.returns-clause-sorted
returns-clause-sorted c =
    c.in_ok-sort_by.ensures.sorted (λ a b. is_lt (path_cmp a b)) (ranks_by nat_list_cmp_total (λ (x : Path). x.keys.now))
    (always_returns_same _ (λ a r. is_lt r ≡ is_lt (path_cmp a.0.now a.1.0.now)) _ (λ a r f' k. search rules))
