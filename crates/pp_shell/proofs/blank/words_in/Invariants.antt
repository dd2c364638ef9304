use Rattle.std.proofs.Common.{◌≡◌, map, take}
use Rattle.std.specs.Prelude.{filter}
use Rattle.pp_shell.specs.Blanks.{is_word}
use Rattle.pp_shell.proofs.blank.words_in.Given as goal

abbrev pub invariant-loop-part : goal.invariant-loop-part
invariant-loop-part l = map (λ w. w.now) l.words.items ≡ filter is_word (map (λ w. w.now) (take l.part-index l.part-items))
