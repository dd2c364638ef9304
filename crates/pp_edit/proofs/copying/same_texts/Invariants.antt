use Rattle.std.proofs.Common.{◌≡◌, take}
use Rattle.pp_edit.proofs.copying.same_texts.Given as goal

abbrev pub invariant-loop-text : goal.invariant-loop-text
invariant-loop-text l = l.list ≡ take l.text-index l.texts
