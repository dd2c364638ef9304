use Rattle.std.proofs.Common.{◌+◌, ap, get_or, refl, take, w64, to_z, of_z, FitsSigned, rules}
use Rattle.std.proofs.lemmas.Int.{to_z-of_z}
use Rattle.std.proofs.lemmas.Result.{IfOk-weaker}
use Rattle.pp_calltree.specs.declared.branch.Branch.{Branch}
use Rattle.pp_calltree.specs.declared.path.Path.{Path}
use Rattle.pp_calltree.proofs.ListedPaths.{passes_alone, passes_more}
use Rattle.pp_calltree.proofs.Trails.{first_is, only_path, trail_some}
use Rattle.pp_calltree.proofs.listing.pass_on.Goals as goal

pub bounds-branch-0 : goal.bounds-branch-0
bounds-branch-0 c = trail_some c.args.branch.now c.requires.long

pub returns-then-branch-eq1 : goal.returns-then-branch-eq1
returns-then-branch-eq1 c = λ p names most can listable.
    let path : Path = get_or c.args.branch.now.paths.now 0 _ in
    let fits : FitsSigned w64 path.value = search rules in
    IfOk-weaker c.push_sum.result _ _
    (λ _ lists. passes_alone p names most c.args.branch.now path (only_path c.args.branch.now.paths.now _ c.if-branch-eq1.true) listable
    (record { keys = path.keys; sum = to_z w64 (of_z w64 path.value) }) c.args.waiting.now.items c.args.waiting.now.items c.args.sums.now.items c.push_sum.new.sums.items
    refl (to_z-of_z w64 path.value fits) lists refl) c.push_sum.ensures

pub returns : goal.returns
returns c = λ p names most can listable.
    let b : Branch = c.args.branch.now in
    IfOk-weaker c.push_branches.result _ _
    (λ _ adds. passes_more p names most c.args.texts.now can b _ c.args.waiting.now.items c.push_branches.new.waiting.items c.args.sums.now.items c.push_sum-2.new.sums.items listable
    (ap (take (b.depth + 1)) (first_is b.paths.now _ (trail_some b listable.trailed.long))) (to_z-of_z w64 b.flat (search rules)) c.in_ok-push_sum.ensures adds) c.push_branches.ensures
