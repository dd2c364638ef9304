use Rattle.std.proofs.Common.{take}
use Rattle.pp_model.proofs.FirstSightLemmas.{AreFirsts}
use Rattle.pp_share.proofs.first_sight.keep_firsts.Given as goal

abbrev pub invariant-loop-item : goal.invariant-loop-item
invariant-loop-item g l =
    AreFirsts g.K.PartialEq.eq g.T.Keyed.key_of (take l.item-index l.items) l.table.keys l.kept l.ids
