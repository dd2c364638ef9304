use Rattle.std.proofs.Common.{◌≡◌, refl, subst, sym, arith}
use Rattle.pp_model.specs.Finders.{Finders}
use Rattle.pp_count.specs.Counts.{total_of}
use Rattle.pp_count.specs.Seeing.{HoldsFilters}
use Rattle.pp_count.specs.Counted.{AreKeyed, IsCountedOf}
use Rattle.pp_count.specs.Rising.{AreRisingBetween}
use Rattle.pp_count.specs.Scope.{IsSoundScope, AreCountable, AreCounted, samples_in_scope}
use Rattle.pp_count.proofs.Kept.{values_fit}
use Rattle.pp_count.proofs.counted.count.Goals as goal

pub count_whole-requires-clause-sound : goal.count_whole-requires-clause-sound
count_whole-requires-clause-sound g c = λ _ _. subst IsSoundScope (sym c.whole-scope.ensures)
    (record { filters = c.in_ok-by.ensures.filters; verdicts = c.requires.verdicts; table = c.in_ok-by.ensures.table; few_kept = tt; chosen = tt })

pub count_whole-requires-clause-countable : goal.count_whole-requires-clause-countable
count_whole-requires-clause-countable g c = λ _ _. subst (λ scope. AreCountable scope (samples_in_scope scope)) (sym c.whole-scope.ensures)
    (record {
      fits = values_fit c.args.l.now.profile c.args.column c.args.config.now.presentation.divide_by c.requires.countable c.requires.column;
      few = c.requires.countable.samples;
    })

pub returns-in-Ok : goal.returns-in-Ok
returns-in-Ok g c =
    let all = subst (λ scope. AreCounted scope (samples_in_scope scope) c.in-Ok.whole.sofar) c.whole-scope.ensures c.in-Ok.ensures.counted in
    let keyed = subst (λ scope. AreKeyed scope c.in-Ok.whole.keyed) c.whole-scope.ensures c.in-Ok.ensures.keyed in
    subst (IsCountedOf c.args.l.now c.args.v.now c.args.config.now c.args.column) (sym c.counted_of.ensures)
    (record {
      kept = all.counted.kept;
      sums_are = keyed.sums;
      matches = all.matched refl;
      total_is = subst (λ scope. (f : Finders) → HoldsFilters scope.l.now scope.v.now scope.config.now.filtering f → c.in-Ok.whole.total ≡ total_of scope.l.now.profile f scope.config.now scope.column) c.whole-scope.ensures c.in-Ok.ensures.total;
      fits = keyed.fits;
      of_profile = keyed.of_profile;
      rising = subst (λ n. AreRisingBetween 0 n c.in-Ok.whole.sofar.kept) (omega arith) all.counted.rising;
      table = c.in_ok-by.ensures.table;
      filters = c.in_ok-by.ensures.filters;
      names = keyed.names;
      numbered = keyed.numbered;
    })
