use Rattle.std.proofs.Common.{◌≡◌, ℕ, ◌+◌, ◌<◌, List, [], ◌∷◌, get_or, length, pos, take, ap, subst, ◌≤◌, ◌∙◌, arith}
use Rattle.std.proofs.lemmas.List.{map-append, take_all, take_more}
use Rattle.std.proofs.lemmas.List.Sums.{sum_by_push}
use Rattle.pp_count.specs.Sums.{Seen}
use Rattle.pp_calltree.specs.declared.path.Path.{Path}
use Rattle.pp_calltree.specs.CallTree.{all_lengths}
use Rattle.pp_calltree.specs.Paths.{below, path_below}
use Rattle.pp_calltree.proofs.path.node_count.Goals as goal

none : Path
none = record { value = pos 0; keys = record { ref_ptr = (0, 0); now = [] } }

-- the keys of one more path
lengths_more : (paths : List Path) (i : ℕ) (d : Path) → i < length paths
    → all_lengths (below 0 (take (i + 1) paths)) ≡ all_lengths (below 0 (take i paths)) + length (get_or paths i d).keys.now
lengths_more paths i d here =
    ap (λ ps. all_lengths (below 0 ps)) (take_more paths i d here) ∙ ap all_lengths (map-append (path_below 0) (take i paths) (get_or paths i d ∷ []))
    ∙ sum_by_push (λ (s : Seen ℕ). length s.keys) (below 0 (take i paths)) (path_below 0 (get_or paths i d))

pub loop-place-preserved : goal.loop-place-preserved
unfolding none
loop-place-preserved c =
    omega (arith, c.saturating_add-count.ensures, c.loop-place.invariant, lengths_more c.args.paths.now c.loop-place.place none c.loop-place-test.true)

pub returns : goal.returns
returns c = subst (λ ps. c.loop-place.count ≤ all_lengths (below 0 ps)) (take_all c.loop-place.place c.args.paths.now c.loop-place-test.false) c.loop-place.invariant
