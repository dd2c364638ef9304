use Rattle.std.proofs.Common.{◌≡◌, ℕ, ◌+◌, ◌-◌, ◌*◌, ◌++◌, min, List, length, take, drop, subst, sym, ap, ◌∙◌, arith}
use Rattle.std.proofs.lemmas.Grind.{div_ceil_times}
use Rattle.std.proofs.Math.Seq.{take-add}
use Rattle.std.proofs.lemmas.List.{take_all}
use Rattle.pp_steal.specs.declared.piecewise.TheConstants.{WAVE}
use Rattle.pp_steal.proofs.piecewise.run_piecewise.Goals as goal

-- one wave more
pub loop-wave-preserved : goal.loop-wave-preserved
loop-wave-preserved g c =
    let right = g.W.Piecewise.right c.args.work.now in
    let items : List g.row.T.Denot = c.args.items.now in
    let start : ℕ = c.loop-wave.wave * WAVE in
    let len : ℕ = c.min-len.result in
    let below = div_ceil_times (length items) WAVE (omega arith) in
    let begun : min start (length items) ≡ start = omega (arith, c.loop-wave-test.true, c.div_ceil-wave-end.ensures, below) in
    let ended : start + len ≡ min ((c.loop-wave.wave + 1) * WAVE) (length items) = omega (arith, c.min-len.ensures, begun) in
    let same : start + len - start ≡ len = omega arith in
    let cut : take start items ++ take (start + len - start) (drop start items) ≡ take (min ((c.loop-wave.wave + 1) * WAVE) (length items)) items =
    ap (λ n. take start items ++ take n (drop start items)) same ∙ sym (take-add start len items) ∙ ap (λ n. take n items) ended in
    subst (λ l. right l c.in_ok-all-2.all) cut
    (c.in_ok-all-2.ensures (take start items) (subst (λ n. right (take n items) c.loop-wave.all) begun c.loop-wave.invariant))

-- after all waves
pub returns : goal.returns
returns g c =
    let items : List g.row.T.Denot = c.args.items.now in
    let all : min (c.loop-wave.wave * WAVE) (length items) ≡ length items =
    omega (arith, c.loop-wave-test.false, c.div_ceil-wave-end.ensures, div_ceil_times (length items) WAVE (omega arith)) in
    subst (λ l. g.W.Piecewise.right c.args.work.now l c.loop-wave.all)
    (ap (λ n. take n items) all ∙ take_all (length items) items (omega arith)) c.loop-wave.invariant
