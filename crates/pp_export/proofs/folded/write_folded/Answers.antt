use Rattle.std.proofs.Common.{◌∙◌}
use Rattle.pp_base.proofs.TextLemmas.{appended}
use Rattle.pp_export.proofs.Lines.{folded_is}
use Rattle.pp_export.proofs.folded.write_folded.Goals as goal

pub put_paths-requires : goal.put_paths-requires
put_paths-requires c = rw c.deref.ensures.value c.requires

pub returns-clause-ok : goal.returns-clause-ok
returns-clause-ok c = λ v config column f are holds.
    appended c.append.result c.append.new.self c.args.out.now c.put_paths.new.out _
    ((rw (c.new-text.ensures, c.deref.ensures.value) at c.in_ok-put_paths.ensures)
    ∙ folded_is c.args.l.now v config column f c.args.t.now.names.now c.args.t.now.paths.items are holds) c.append.ensures.ok
