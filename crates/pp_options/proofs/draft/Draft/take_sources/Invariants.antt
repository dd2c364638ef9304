use Rattle.std.proofs.Common.{◌+◌, List, drop}
use Rattle.pp_options.specs.Words.{Entry, sources}
use Rattle.pp_options.specs.Drafts.{IsReading}
use Rattle.pp_options.proofs.draft.Draft.take_sources.Given as goal

abbrev pub invariant-loop-i : goal.invariant-loop-i
invariant-loop-i l = (whole : List Entry) → IsReading l.fn.self whole (sources l.first l.words) → IsReading l.self whole (sources (l.first + l.i) (drop l.i l.words))
