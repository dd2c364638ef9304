use Rattle.pp_source.proofs.Finding.{CollectedTo}
use Rattle.pp_source.proofs.lines.collect.Given as goal

-- the keys so far that some sample had
abbrev pub invariant-loop-key : goal.invariant-loop-key
invariant-loop-key l = CollectedTo l.survey.l.now.profile l.survey.v.now.own l.lines l.key-index l.found.items
