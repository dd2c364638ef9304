use Rattle.std.proofs.Common.{◌≡◌, length}
use Rattle.pp_share.proofs.ChangeLemmas.{changed_front}
use Rattle.pp_share.proofs.change.change_each.Given as goal

abbrev pub invariant-loop-place : goal.invariant-loop-place
invariant-loop-place g l = record {
  so_far : l.items ≡ changed_front (g.C.Change.changed l.change) l.initial.items l.place;
  as_long : length l.items ≡ length l.initial.items;
}
