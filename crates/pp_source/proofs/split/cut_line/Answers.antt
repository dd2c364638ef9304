use Rattle.pp_source.proofs.FileLemmas.{cut_first, cut_all}
use Rattle.pp_source.proofs.split.cut_line.Goals as goal

pub returns-in-Some-clause-line : goal.returns-in-Some-clause-line
returns-in-Some-clause-line c = cut_first c.args.bytes.now c.in-Some.parts.0.now c.in-Some.parts.1.now c.requires c.in-Some.ensures.before c.in-Some.ensures.after

pub returns-in-None-clause-line : goal.returns-in-None-clause-line
returns-in-None-clause-line c = cut_all c.args.bytes.now c.requires c.in-None.ensures.found c.in-None.ensures.whole
