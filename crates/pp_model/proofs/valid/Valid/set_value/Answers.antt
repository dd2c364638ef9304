use Rattle.std.proofs.Common.{w64}
use Rattle.std.proofs.lemmas.Int.{to_z-of_z}
use Rattle.pp_model.proofs.ValueLemmas.{column_within, still_valid, value_set}
use Rattle.pp_model.proofs.valid.Valid.set_value.Goals as goal

pub item_mut-requires : goal.item_mut-requires
item_mut-requires c = column_within _ _ _ _ _ c.self.invariant c.self.view_is c.requires.column c.item_mut-sample.ensures.value

pub invariant_of-self : goal.invariant_of-self
invariant_of-self c = still_valid _ _ _ _ _ c.item_mut-sample.ensures.value c.self.invariant

pub returns : goal.returns
returns c = value_set _ _ _ _ _ _ _ c.self.view_is c.item_mut-sample.ensures.value (to_z-of_z w64 _ c.ranges.value)
