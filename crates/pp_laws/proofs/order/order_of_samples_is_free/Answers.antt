use Rattle.pp_laws.proofs.Reordering.{order_is_free}
use Rattle.pp_laws.proofs.order.order_of_samples_is_free.Goals as goal

pub returns : goal.returns
returns c = order_is_free
