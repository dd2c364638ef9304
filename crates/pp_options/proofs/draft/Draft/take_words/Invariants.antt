use Rattle.std.proofs.Common.{◌≤◌, ◌-◌, ◌+◌, List, length}
use Rattle.pp_options.specs.Words.{Entry, entries}
use Rattle.pp_options.specs.Drafts.{IsReading}
use Rattle.pp_options.proofs.draft.Draft.take_words.Given as goal

abbrev pub invariant-loop-word : goal.invariant-loop-word
invariant-loop-word l =
    (length l.rest ≤ length l.words)
    × ((whole : List Entry) → IsReading l.fn.self whole (entries 1 l.words) → IsReading l.self whole (entries (length l.words - length l.rest + 1) l.rest))

abbrev pub decreases-loop-word : goal.decreases-loop-word
decreases-loop-word l = length l.rest
