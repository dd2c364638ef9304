use Rattle.std.proofs.Common.{◌≡◌, map, take}
use Rattle.pp_pattern.specs.Patterns.{any_text}
use Rattle.pp_pattern.proofs.parts.yes_to_texts.Given as goal

-- yes for each of the subjects so far that isn't empty
abbrev pub invariant-loop-subject : goal.invariant-loop-subject
invariant-loop-subject l = l.found ≡ map any_text (take l.subject-index l.subjects)
