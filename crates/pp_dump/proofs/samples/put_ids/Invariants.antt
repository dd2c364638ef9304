use Rattle.std.proofs.Common.{◌≡◌, ◌++◌, take}
use Rattle.std.specs.List.{flat_map}
use Rattle.pp_dump.specs.Raw.{id_word}
use Rattle.pp_dump.proofs.samples.put_ids.Given as goal

abbrev pub invariant-loop-id : goal.invariant-loop-id
invariant-loop-id l = l.lines ≡ l.initial.lines ++ flat_map (id_word) (take l.id-index l.ids)
