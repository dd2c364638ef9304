use Rattle.std.proofs.Common.{◌≤◌, length}
use Rattle.pp_real.proofs.ReadLemmas.{StaysWhole}
use Rattle.pp_real.proofs.files.read_to_end.Given as goal

-- what was read so far is within the limit, and with what is left it is what there was
abbrev pub invariant-loop : goal.invariant-loop
invariant-loop g l = (length l.into ≤ l.limit)
    × StaysWhole (g.R.Read.remaining l.fn.reader) (g.R.Read.remaining l.reader) l.fn.into l.into
