use Rattle.pp_tables.proofs.Payloads.{payloads_joined, period_type_joined}
use Rattle.pp_tables.proofs.laws.payloads_are_joined.Goals as goal

pub returns-clause-payloads : goal.returns-clause-payloads
returns-clause-payloads c = payloads_joined

pub returns-clause-period_type : goal.returns-clause-period_type
returns-clause-period_type c = period_type_joined
