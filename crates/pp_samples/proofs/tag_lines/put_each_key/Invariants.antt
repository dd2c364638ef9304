use Rattle.std.proofs.Common.{◌≡◌, ◌++◌, List, All, take}
use Rattle.std.specs.List.{flat_map}
use Rattle.pp_units.specs.Words.{shown}
use Rattle.pp_count.specs.Sums.{Seen}
use Rattle.pp_samples.specs.TagLines.{TagTexts, key_lines}
use Rattle.pp_samples.specs.Ranked.{IsKeyLine, line_key}
use Rattle.pp_samples.proofs.tag_lines.put_each_key.Given as goal

abbrev pub invariant-loop-line : goal.invariant-loop-line
invariant-loop-line l = (samples : List (Seen TagTexts)) → All (IsKeyLine samples l.tables) l.lines
    → l.out ≡ l.initial.out ++ flat_map (λ line. key_lines (shown l.unit) samples (line_key line)) (take l.line-index l.lines)
