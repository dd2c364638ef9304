use Rattle.std.proofs.Common.{length, map, ap, ◌∙◌, arith}
use Rattle.std.proofs.lemmas.List.{take_all}
use Rattle.pp_samples.specs.Ranked.{event_entry, table_tags}
use Rattle.pp_samples.proofs.tag_lines.table_lines.Goals as goal

pub returns-clause-entries : goal.returns-clause-entries
returns-clause-entries c events is =
    let tags = table_tags events in
    let whole = take_all c.loop-number.number tags (omega (arith, c.loop-number-test.false, c.len-number-end.ensures, ap length is.tags)) in
    c.loop-number.invariant.entries events is ∙ ap (map (event_entry events)) whole
