use Rattle.std.proofs.Common.{◌≡◌, ◌++◌, take}
use Rattle.pp_tags.specs.Verdicts.{shown_by}
use Rattle.pp_tags.proofs.showing_into.add_shown.Given as goal

-- those of the labels so far
abbrev pub invariant-loop-label : goal.invariant-loop-label
invariant-loop-label l = l.shown ≡ l.initial.shown ++ shown_by l.v (take l.label-index l.labels)
