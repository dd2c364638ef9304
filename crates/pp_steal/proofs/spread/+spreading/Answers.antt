use Rattle.std.proofs.Common.{refl}
use Rattle.std.specs.Fork.{AcceptsAt, ChangesAt}
use Rattle.pp_steal.proofs.Spreading.{all_front, all_back, changes_both}
use Rattle.pp_steal.proofs.spread.+spreading.Goals as goal

-- `f` may be called with the items of both parts
pub each_from-beside-requires-clause-part : goal.each_from-beside-requires-clause-part
each_from-beside-requires-clause-part g t c _ _ = let cut = c.split_at_mut-part in
    all_front (AcceptsAt g.F.Fn c.args.f.now) c.args.from _ _ _ cut.ensures.value c.requires

pub each_from-beside-requires-clause-rest : goal.each_from-beside-requires-clause-rest
each_from-beside-requires-clause-rest g t c _ _ = let cut = c.split_at_mut-part in
    all_back (AcceptsAt g.F.Fn c.args.f.now) c.args.from _ _ _ _ cut.ensures.value refl c.requires

-- both parts are changed, and the list is both
pub each_from-returns : goal.each_from-returns
each_from-returns g t c = let cut = c.split_at_mut-part in
    changes_both (ChangesAt g.F.Fn c.args.f.now) c.args.from _ _ _ _ _ _
    cut.ensures.value refl c.beside.ensures.part c.beside.ensures.rest
