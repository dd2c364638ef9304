use Rattle.pp_source.proofs.FileLemmas.{lines_next}
use Rattle.pp_source.proofs.split.file_lines.Goals as goal

-- one more line
pub loop-rest-preserved : goal.loop-rest-preserved
loop-rest-preserved c =
    lines_next c.loop-rest.lines.items c.push.new.self.items c.cut_line.result.0 c.loop-rest.rest.now c.cut_line.result.1.now c.args.bytes.now
    c.in_ok-push.ensures.items c.cut_line.ensures.line c.loop-rest.invariant
