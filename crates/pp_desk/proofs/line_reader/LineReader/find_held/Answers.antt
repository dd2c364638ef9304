use Rattle.std.proofs.Common.{◌≡◌, ◌-◌, ap, arith, drop, length}
use Rattle.pp_desk.proofs.Coming.{found_later, found_none}
use Rattle.pp_desk.proofs.line_reader.LineReader.find_held.Goals as goal

-- no line ends in what was not searched yet
pub returns-in_err-at-clause-found : goal.returns-in_err-at-clause-found
returns-in_err-at-clause-found c =
    let r = c.self.inside in
    let front = rw (← c.self.view_is) at c.requires.front in
    let n = c.saturating_sub-searched.ensures in
    let rest : c.split_at.result.1.now ≡ drop (c.args.from - r.passed) r.window = rw (n, c.bytes.ensures) at c.split_at.ensures.back in
    rw (c.from_residual.ensures, ← c.self.view_is) (found_none r.passed c.args.from r.window c.split_at.result.1.now front rest c.in_err-at.ensures)

-- the first line end there is the first of all
pub returns-clause-found : goal.returns-clause-found
returns-clause-found c =
    let r = c.self.inside in
    let front = rw (← c.self.view_is) at c.requires.front in
    let n = c.saturating_sub-searched.ensures in
    let rest : c.split_at.result.1.now ≡ drop (c.args.from - r.passed) r.window = rw (n, c.bytes.ensures) at c.split_at.ensures.back in
    rw (← c.self.view_is, n) (found_later r.passed c.args.from r.window c.split_at.result.1.now front rest c.in_ok-at.at (omega (arith, ap length c.bytes.ensures)) c.in_ok-at.ensures)
