use Rattle.std.proofs.Common.{codes, w64, SFits, rules}
use Rattle.std.proofs.lemmas.Int.{to_z-of_z}
use Rattle.pp_base.proofs.TextLemmas.{joined}
use Rattle.pp_dump.specs.Raw.{number_line}
use Rattle.pp_dump.proofs.raw.put_numbers.Goals as goal

-- the three lines in turn
pub returns : goal.returns
returns c =
    let p = c.args.p.now in
    let period : SFits w64 p.period = search rules in
    let time : SFits w64 p.time_nanos = search rules in
    let duration : SFits w64 p.duration_nanos = search rules in
    joined c.put_number-3.result c.args.lines.now _ _ _ (number_line (codes "Period: ") p.period)
    (number_line (codes "TimeNanos: ") p.time_nanos) (number_line (codes "DurationNanos: ") p.duration_nanos)
    (rw (to_z-of_z w64 p.period period) at c.in_ok-put_number.ensures)
    (rw (to_z-of_z w64 p.time_nanos time) at c.in_ok-put_number-2.ensures)
    (rw (to_z-of_z w64 p.duration_nanos duration) at c.put_number-3.ensures)
