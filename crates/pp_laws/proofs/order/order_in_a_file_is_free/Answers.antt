use Rattle.pp_laws.proofs.LoadedOrder.{loaded_order_is_free}
use Rattle.pp_laws.proofs.order.order_in_a_file_is_free.Goals as goal

pub returns : goal.returns
returns c = loaded_order_is_free
