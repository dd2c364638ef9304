use Rattle.std.proofs.Common.{◌≡◌, ◌++◌, take}
use Rattle.std.specs.List.{flat_map}
use Rattle.pp_units.specs.Words.{shown}
use Rattle.pp_samples.specs.Ranked.{line_entry, entry_line}
use Rattle.pp_samples.proofs.tag_lines.put_values.Given as goal

abbrev pub invariant-loop-line : goal.invariant-loop-line
invariant-loop-line l = l.out ≡ l.initial.out ++ flat_map (λ line. entry_line (shown l.unit) l.size (line_entry line)) (take l.line-index l.lines)
