use Rattle.std.proofs.Common.{◌≡◌, take}
use Rattle.pp_model.specs.Finders.{Finders}
use Rattle.pp_count.specs.Scope.{config_of}
use Rattle.pp_count.specs.Seeing.{HoldsFilters}
use Rattle.pp_account.specs.Portions.{portions_of}
use Rattle.pp_account.proofs.samples.add_samples.Given as goal

-- the samples so far are added up
abbrev pub invariant-loop-place : goal.invariant-loop-place
invariant-loop-place l = (f : Finders) → HoldsFilters l.scope.l.now l.scope.v.now l.scope.config.now.filtering f
    → l.portions ≡ portions_of l.scope.l.now.profile f (config_of l.scope) l.scope.column (take l.place l.scope.l.now.profile.sample)
