use Rattle.std.proofs.Common.{refl}
use Rattle.pp_source.proofs.ReadLemmas.{files_next}
use Rattle.pp_source.proofs.files.files_of.Goals as goal

pub loop-line-preserved : goal.loop-line-preserved
loop-line-preserved c =
    files_next _ (λ a b. refl) c.args.lines.now c.loop-line.line-index _ c.loop-line.files.keys c.insert.new.self.keys c.loop-line-test.true c.loop-line.invariant c.in_ok-insert.ensures.keys
