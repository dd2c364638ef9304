use Rattle.std.proofs.Common.{◌≡◌, map, is_some, take}
use Rattle.regex.specs.Patterns.{Re, SameCaptures, find}
use Rattle.regex.specs.Bytes.{regex_pattern, matcher_pattern}
use Rattle.pp_regex.proofs.searching.verdicts_of.Given as goal

-- the matcher keeps its pattern, and the subjects so far are judged
abbrev pub invariant-loop-subject : goal.invariant-loop-subject
invariant-loop-subject l =
    (matcher_pattern l.matcher ≡ regex_pattern l.fn.regex)
    × ((re : Re) → SameCaptures (regex_pattern l.fn.regex) re →
    l.verdicts.items ≡ map (λ subject. is_some (find re subject 0)) (take l.subject-index l.subjects))
