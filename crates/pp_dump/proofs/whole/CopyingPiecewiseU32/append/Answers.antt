use Rattle.std.proofs.Common.{◌++◌, sym, subst}
use Rattle.pp_dump.specs.Places.{AreCopies}
use Rattle.pp_dump.proofs.AddingSamples.{copies_both}
use Rattle.pp_dump.proofs.whole.CopyingPiecewiseU32.append.Goals as goal

-- copies of both parts
pub returns : goal.returns
returns c = λ xs ys first second.
    subst (AreCopies c.args.self.now.l.now c.args.self.now.v.now (xs ++ ys)) (sym c.in_ok-append.ensures.ok)
    (copies_both c.args.self.now.l.now c.args.self.now.v.now xs ys c.args.front c.args.back first second)
