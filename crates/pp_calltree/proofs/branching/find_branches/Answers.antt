use Rattle.std.proofs.Common.{◌+◌, ◌≡◌, ℕ, ◌-◌, ◌<◌, List, length, take, drop, refl, sym, ap, subst, ◌∙◌, arith}
use Rattle.std.proofs.lemmas.List.{drop-drop, length-drop, take_all}
use Rattle.pp_calltree.specs.declared.path.Path.{Path}
use Rattle.pp_calltree.proofs.FoundRuns.{FoundTo, found_none, found_step, run_fits}
use Rattle.pp_calltree.proofs.Trails.{TrailsTo, trails_none, trails_step}
use Rattle.pp_calltree.proofs.branching.find_branches.Goals as goal

-- a slice from a place on is what is left of the whole
rest_is : (paths : List Path) (from : ℕ) → take (length paths - from) (drop from paths) ≡ drop from paths
rest_is paths from = take_all (length paths - from) (drop from paths) (omega (arith, length-drop from paths))

pub loop-from-init : goal.loop-from-init
loop-from-init c = record {
  in_range = omega arith;
  found_are = found_none c.args.depth c.args.paths.now c.args.paths.now c.clear.new.self.items refl c.clear.ensures.items c.requires.rises;
  trails = λ above deep begin. trails_none above c.args.paths.now c.clear.new.self.items c.clear.ensures.items begin;
}

pub add_branch-requires-clause-fits : goal.add_branch-requires-clause-fits
add_branch-requires-clause-fits c =
    let rest : List Path = take (length c.args.paths.now - c.loop-from.from) (drop c.loop-from.from c.args.paths.now) in
    run_fits c.args.depth c.first_run-count.result c.args.paths.now rest c.loop-from.found.items (take c.first_run-count.result rest) refl
    (subst (λ r. FoundTo c.args.depth c.args.paths.now r c.loop-from.found.items) (sym (rest_is c.args.paths.now c.loop-from.from)) c.loop-from.invariant.found_are) c.requires.fits

pub loop-from-preserved : goal.loop-from-preserved
loop-from-preserved c =
    let paths : List Path = c.args.paths.now in
    let from : ℕ = c.loop-from.from in
    let count : ℕ = c.first_run-count.result in
    let rest : List Path = take (length paths - from) (drop from paths) in
    let long : length rest ≡ length paths - from = ap length (rest_is paths from) ∙ length-drop from paths in
    let some : 0 < length rest = omega (arith, long, c.loop-from-test.true) in
    let left : drop count rest ≡ drop (from + count) paths = ap (drop count) (rest_is paths from) ∙ drop-drop count from paths in
    record {
      in_range = omega (arith, c.first_run-count.ensures.within, long, c.loop-from-test.true);
      found_are = subst (λ r. FoundTo c.args.depth paths r c.add_branch.new.found.items) left
          (found_step c.args.depth paths rest (take count rest) (drop count rest) c.loop-from.found.items c.add_branch.new.found.items some
          (ap (λ n. take n rest) c.first_run-count.ensures.value) (ap (λ n. drop n rest) c.first_run-count.ensures.value) c.in_ok-add_branch.ensures
          (subst (λ r. FoundTo c.args.depth paths r c.loop-from.found.items) (sym (rest_is paths from)) c.loop-from.invariant.found_are));
      trails = λ above deep begin. subst (λ r. TrailsTo above r c.add_branch.new.found.items) left
          (trails_step above c.args.depth rest (take count rest) (drop count rest) c.loop-from.found.items c.add_branch.new.found.items deep some
          (ap (λ n. take n rest) c.first_run-count.ensures.value) (ap (λ n. drop n rest) c.first_run-count.ensures.value) c.in_ok-add_branch.ensures
          (subst (λ r. TrailsTo above r c.loop-from.found.items) (sym (rest_is paths from)) (c.loop-from.invariant.trails above deep begin)));
    }

pub returns-clause-go_on : goal.returns-clause-go_on
returns-clause-go_on c = λ above deep begin. (c.loop-from.invariant.trails above deep begin).on
