use Rattle.std.proofs.Common.{◌≡◌, ◌+◌, arith, refl, subst}
use Rattle.std.specs.Prelude.{slice_index_or}
use Rattle.std.specs.Fork.{ChangesAt}
use Rattle.pp_steal.proofs.spread.for_each_on.Goals as goal

-- the whole list begins at place 0
pub returns : goal.returns
returns g c i other below =
    let place : 0 + i ≡ i = omega arith in (
      refl,
      subst (λ k. ChangesAt g.F.Fn c.args.f.now k (slice_index_or c.args.items.now i other) (slice_index_or c.each_from.new.items i other))
          place (c.each_from.ensures.each i other below),
    )
