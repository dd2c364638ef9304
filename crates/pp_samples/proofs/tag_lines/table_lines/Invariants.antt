use Rattle.std.proofs.Common.{◌≡◌, ◌<◌, List, All, length, map, take}
use Rattle.pp_samples.specs.Tables.{Event, IsTableOf}
use Rattle.pp_samples.specs.Ranked.{line_entry, event_entry, table_tags}
use Rattle.pp_samples.proofs.tag_lines.table_lines.Given as goal

-- the lines of the tags so far
abbrev pub invariant-loop-number : goal.invariant-loop-number
invariant-loop-number l = record {
  numbers : All (λ line. line.number < length l.table.names) l.lines.items;
  entries : (events : List Event) → IsTableOf events l.table → map line_entry l.lines.items ≡ map (event_entry events) (take l.number (table_tags events));
}
