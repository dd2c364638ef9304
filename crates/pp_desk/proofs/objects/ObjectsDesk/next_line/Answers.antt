use Rattle.std.proofs.Common.{◌≡◌, ◌∙◌, ap, sym, refl, arith}
use Rattle.std.specs.Prelude.{option_map, Some}
use Rattle.std.proofs.lemmas.Result.{err_from_is_err_and}
use Rattle.pp_desk.specs.Reader.{lines_from, to_come, unread_by, room_of, IsLeftBehind}
use Rattle.pp_desk.specs.World.{intake}
use Rattle.pp_desk.proofs.Coming.{begun_lines}
use Rattle.pp_desk.proofs.Leaves.{line_wanted, reads_line}
use Rattle.pp_desk.proofs.objects.ObjectsDesk.next_line.Goals as goal

-- no reader could be made, and there was none
pub returns-in_err-reader : goal.returns-in_err-reader
returns-in_err-reader g c =
    let p = err_from_is_err_and c.from_residual.result c.from_residual.ensures.1 in
    let e = c.in_err-reader.ensures.err in
    let none : c.take.new.self ≡ c.args.self.now.reader.now = c.take.ensures.after ∙ sym e.1 ∙ c.take.ensures.value in
    let left = g.I.Source.left c.args.self.now.input.now in
    rw (p.1, p.2, e.0) (line_wanted _ _ _ _ _ (ap (λ r. option_map (lines_from r) left) none) (ap (λ r. unread_by r left) none) (omega arith) (ap (λ r. intake left (room_of r)) none))

-- the reader gives the next line, whether it has begun before or not
pub returns : goal.returns
returns g c =
    let f = c.next_line-answer.ensures in
    let same = begun_lines c.args.self.now.reader.now c.in_ok-reader.reader (g.I.Source.left c.args.self.now.input.now) (λ l. c.in_ok-reader.ensures.ok l ∙ ap (λ r. lines_from r l) c.take.ensures.value) in
    let room = c.in_ok-reader.ensures.room ∙ ap room_of c.take.ensures.value in
    let behind : IsLeftBehind (option_map (to_come c.next_line-answer.new.self) (g.I.Source.left c.next_line-answer.new.input)) (g.I.Source.left c.next_line-answer.new.input) =
    record { reader = Some c.next_line-answer.new.self; few = omega arith; are = refl } in
    rw c.line_of.ensures (reads_line _ _ _ _ _ _ (rw same at f.line) refl f.later (rw room at f.taken) behind f.failed)
