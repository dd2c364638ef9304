use Rattle.std.proofs.Common.{ap, sym, ◌∙◌}
use Rattle.pp_load.specs.Combine.{agreeing}
use Rattle.pp_load.specs.Steps.{Loads}
use Rattle.pp_load.proofs.combine.combine.Goals as goal

-- all profiles agree with the first
pub join-requires-clause-agree : goal.join-requires-clause-agree
unfolding Loads
join-requires-clause-agree g c = λ _ _. ap agreeing (sym c.as_slice.ensures) ∙ c.in_ok-compare.ensures
