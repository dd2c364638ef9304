use Rattle.std.proofs.Common.{refl}
use Rattle.pp_count.specs.Scope.{samples_in_scope}
use Rattle.pp_count.proofs.Pieces.{none_counted}
use Rattle.pp_count.proofs.waves.count_all.Goals as goal

pub count_waves-requires-clause-none : goal.count_waves-requires-clause-none
count_waves-requires-clause-none g c = λ _ _.
    none_counted c.args.scope.now 0 (samples_in_scope c.args.scope.now) c.in_ok-sofar.sofar refl c.in_ok-sofar.ensures.none c.in_ok-sofar.ensures.kept c.in_ok-sofar.ensures.matched c.in_ok-sofar.ensures.totals
