use Rattle.pp_count.specs.Scope.{config_of}
use Rattle.std.proofs.Common.{◌≡◌, ◌<◌, length, sym, ap, subst, ◌∙◌, arith}
use Rattle.pp_account.proofs.Counting.{next_portions, scope_all}
use Rattle.pp_account.proofs.samples.add_samples.Goals as goal

pub loop-place-preserved : goal.loop-place-preserved
loop-place-preserved c = λ f holds.
    let w = c.args.scope.now in
    let p = w.l.now.profile in
    next_portions p f (config_of w) w.column p.sample c.loop-place.place c.sample_at-s.result.now c.loop-place.portions c.add_sample.new.portions
    (omega (arith, c.loop-place-test.true, ap (λ q. length q.sample) c.get.ensures.same)) c.requires.countable.few c.requires.countable.fits
    (rw (scope_all w c.requires.whole) at c.sample_at-s.ensures.is) (c.loop-place.invariant f holds) (c.in_ok-add_sample.ensures f holds)
