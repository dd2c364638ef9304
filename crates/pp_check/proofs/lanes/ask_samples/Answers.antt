use Rattle.std.proofs.Common.{subst}
use Rattle.std.specs.Prelude.{IfOk}
use Rattle.pp_check.specs.Sound.{IsAsked}
use Rattle.pp_check.proofs.lanes.ask_samples.Goals as goal

pub returns : goal.returns
returns g c = subst (λ samples. IfOk c.run_piecewise.result (IsAsked c.args.p.now samples)) c.as_slice.ensures c.run_piecewise.ensures
